-- What is read of each item, an item at a time.
use Rattle.std.proofs.Common.{◌≡◌, ℕ, ◌+◌, ◌<◌, List, [], ◌∷◌, ◌++◌, length, map, drop, get_or, Option, Some, None, option_map, option_and_then, refl, sym, ap, ◌∙◌, append_assoc}
use Rattle.std.proofs.lemmas.List.{append-nil, drop_more}
use Rattle.smithy_types.specs.Results.{each}

-- what the rest gives goes behind what is done
abbrev pub and_rest : {B : Type 0} → List B → Option (List B) → Option (List B)
and_rest done rest = option_map (λ ys. done ++ ys) rest

more_before : {B : Type 0} (done : List B) (y : B) (o : Option (List B)) → and_rest done (option_map (λ ys. y ∷ ys) o) ≡ and_rest (done ++ y ∷ []) o
more_before done y None = refl
more_before {B = B} done y (Some zs) = ap (λ (rest : List B). Some rest) (sym (append_assoc done (y ∷ []) zs))

-- an item that gives something
pub each_next : {A B X : Type 0} (view : X → A) (f : A → Option B) (done : List B) (y : B) (x : X) (xs rest : List X) → xs ≡ x ∷ rest → f (view x) ≡ Some y
    → and_rest done (each f (map view xs)) ≡ and_rest (done ++ y ∷ []) (each f (map view rest))
each_next view f done y x xs rest is e =
    ap (λ zs. and_rest done (each f (map view zs))) is
    ∙ ap (λ r. and_rest done (option_and_then (λ z. option_map (λ ys. z ∷ ys) (each f (map view rest))) r)) e ∙ more_before done y (each f (map view rest))

pub each_item : {A B X : Type 0} (view : X → A) (f : A → Option B) (done : List B) (y : B) (xs : List X) (i : ℕ) (x : X) → i < length xs → x ≡ get_or xs i x → f (view x) ≡ Some y
    → and_rest done (each f (map view (drop i xs))) ≡ and_rest (done ++ y ∷ []) (each f (map view (drop (i + 1) xs)))
each_item view f done y xs i x l is e = each_next view f done y (get_or xs i x) (drop i xs) (drop (i + 1) xs) (drop_more xs i x l) (ap (λ z. f (view z)) (sym is) ∙ e)

pub each_end : {B : Type 0} (done : List B) → and_rest done (Some []) ≡ Some done
each_end {B = B} done = ap (λ (ys : List B). Some ys) (append-nil done)

-- The items of a list from one on.
pub drop_at : {X : Type 0} (xs : List X) (i : ℕ) (x : X) → i < length xs → x ≡ get_or xs i x → drop i xs ≡ x ∷ drop (i + 1) xs
drop_at xs i x l is = drop_more xs i x l ∙ ap (λ y. y ∷ drop (i + 1) xs) (sym is)

pub each_at : {X B : Type 0} (f : X → Option B) (xs : List X) (i : ℕ) (x : X) (r : Option B) → i < length xs → x ≡ get_or xs i x → f x ≡ r
    → each f (drop i xs) ≡ option_and_then (λ y. option_map (λ ys. y ∷ ys) (each f (drop (i + 1) xs))) r
each_at f xs i x r l is e = ap (each f) (drop_at xs i x l is) ∙ ap (option_and_then (λ y. option_map (λ ys. y ∷ ys) (each f (drop (i + 1) xs)))) e

pub each_none : {X B : Type 0} (f : X → Option B) (xs : List X) (i : ℕ) (x : X) → i < length xs → x ≡ get_or xs i x → f x ≡ None → each f (drop i xs) ≡ None
each_none f xs i x l is e = each_at f xs i x None l is e
