-- `each`, an item at a time.
use Rattle.std.proofs.Common.{◌≡◌, ℕ, ◌+◌, ◌<◌, List, [], ◌∷◌, ◌++◌, length, map, drop, get_or, Option, Some, None, option_map, refl, sym, ap, ◌∙◌, append_assoc}
use Rattle.std.proofs.lemmas.List.{append-nil, drop_more}
use Rattle.smithy_types.specs.Results.{each}

-- what the rest gives goes behind what is done
abbrev pub and_rest : {B : Type 0} → List B → Option (List B) → Option (List B)
and_rest done rest = option_map (λ ys. done ++ ys) rest

pub none_before : {B : Type 0} (o : Option (List B)) → and_rest [] o ≡ o
none_before None = refl
none_before (Some ys) = refl

pub more_before : {B : Type 0} (done ys : List B) (o : Option (List B)) → and_rest done (and_rest ys o) ≡ and_rest (done ++ ys) o
more_before done ys None = refl
more_before {B = B} done ys (Some zs) = ap (λ (rest : List B). Some rest) (sym (append_assoc done ys zs))

-- an item that gives something
pub each_next : {A B X : Type 0} (view : X → A) (f : A → Option B) (done : List B) (y : B) (x : X) (xs rest : List X) → xs ≡ x ∷ rest → f (view x) ≡ Some y
    → and_rest done (each f (map view xs)) ≡ and_rest (done ++ y ∷ []) (each f (map view rest))
each_next view f done y x xs rest is e = rw (is, e) (more_before done (y ∷ []) (each f (map view rest)))

-- the item at a position
pub each_at : {A B X : Type 0} (view : X → A) (f : A → Option B) (done : List B) (y : B) (xs : List X) (i : ℕ) (d : X) → i < length xs → f (view (get_or xs i d)) ≡ Some y
    → and_rest done (each f (map view (drop i xs))) ≡ and_rest (done ++ y ∷ []) (each f (map view (drop (i + 1) xs)))
each_at view f done y xs i d l e = each_next view f done y (get_or xs i d) (drop i xs) (drop (i + 1) xs) (drop_more xs i d l) e

pub each_item : {A B X : Type 0} (view : X → A) (f : A → Option B) (done : List B) (y : B) (xs : List X) (i : ℕ) (x : X) → i < length xs → x ≡ get_or xs i x → f (view x) ≡ Some y
    → and_rest done (each f (map view (drop i xs))) ≡ and_rest (done ++ y ∷ []) (each f (map view (drop (i + 1) xs)))
each_item view f done y xs i x l is e = each_at view f done y xs i x l (ap (λ z. f (view z)) (sym is) ∙ e)

pub each_end : {B : Type 0} (done : List B) → and_rest done (Some []) ≡ Some done
each_end {B = B} done = ap (λ (ys : List B). Some ys) (append-nil done)
