-- The first that is found in a list, an item at a time.
use Rattle.std.proofs.Common.{◌≡◌, ℕ, ◌+◌, ◌<◌, ◌≤◌, List, [], ◌∷◌, length, map, drop, get_or, Option, Some, None, sym, ap, ◌∙◌}
use Rattle.std.proofs.Math.ListN.{drop_of_length-le}
use Rattle.std.proofs.lemmas.List.{drop_more}
use Rattle.smithy_model.specs.Wrong.{Wrong, ◌or◌, in_item, first_in, first_item}

-- the item at a position, in front of the rest
rest_at : {A X : Type 0} (view : X → A) (xs : List X) (i : ℕ) (x : X) → i < length xs → x ≡ get_or xs i x → map view (drop i xs) ≡ view x ∷ map view (drop (i + 1) xs)
rest_at view xs i x l is = ap (map view) (drop_more xs i x l) ∙ ap (λ z. view z ∷ map view (drop (i + 1) xs)) (sym is)

-- an item in which something is found, one in which nothing is, and the end
pub first_met : {A X : Type 0} (view : X → A) (f : A → Option Wrong) (whole : Option Wrong) (w : Wrong) (xs : List X) (i : ℕ) (x : X) → i < length xs → x ≡ get_or xs i x
    → Some w ≡ f (view x) → first_in f (map view (drop i xs)) ≡ whole → Some w ≡ whole
first_met view f whole w xs i x l is at so_far =
    ap (λ o. o or first_in f (map view (drop (i + 1) xs))) at ∙ sym (ap (first_in f) (rest_at view xs i x l is)) ∙ so_far

pub first_passed : {A X : Type 0} (view : X → A) (f : A → Option Wrong) (whole : Option Wrong) (xs : List X) (i : ℕ) (x : X) → i < length xs → x ≡ get_or xs i x
    → None ≡ f (view x) → first_in f (map view (drop i xs)) ≡ whole → first_in f (map view (drop (i + 1) xs)) ≡ whole
first_passed view f whole xs i x l is at so_far =
    ap (λ o. o or first_in f (map view (drop (i + 1) xs))) at ∙ sym (ap (first_in f) (rest_at view xs i x l is)) ∙ so_far

pub first_none : {A X : Type 0} (view : X → A) (f : A → Option Wrong) (whole : Option Wrong) (xs : List X) (i : ℕ) → length xs ≤ i → first_in f (map view (drop i xs)) ≡ whole → None ≡ whole
first_none view f whole xs i l so_far = sym (ap (λ ys. first_in f (map view ys)) (drop_of_length-le xs l)) ∙ so_far

-- the same by positions
pub item_met : {A X : Type 0} (view : X → A) (f : A → Option Wrong) (whole : Option Wrong) (w : Wrong) (xs : List X) (i : ℕ) (x : X) → i < length xs → x ≡ get_or xs i x
    → Some w ≡ in_item i (f (view x)) → first_item f i (map view (drop i xs)) ≡ whole → Some w ≡ whole
item_met view f whole w xs i x l is at so_far =
    ap (λ o. o or first_item f (i + 1) (map view (drop (i + 1) xs))) at ∙ sym (ap (first_item f i) (rest_at view xs i x l is)) ∙ so_far

pub item_passed : {A X : Type 0} (view : X → A) (f : A → Option Wrong) (whole : Option Wrong) (xs : List X) (i : ℕ) (x : X) → i < length xs → x ≡ get_or xs i x
    → None ≡ in_item i (f (view x)) → first_item f i (map view (drop i xs)) ≡ whole → first_item f (i + 1) (map view (drop (i + 1) xs)) ≡ whole
item_passed view f whole xs i x l is at so_far =
    ap (λ o. o or first_item f (i + 1) (map view (drop (i + 1) xs))) at ∙ sym (ap (first_item f i) (rest_at view xs i x l is)) ∙ so_far

pub item_none : {A X : Type 0} (view : X → A) (f : A → Option Wrong) (whole : Option Wrong) (xs : List X) (i : ℕ) → length xs ≤ i → first_item f i (map view (drop i xs)) ≡ whole → None ≡ whole
item_none view f whole xs i l so_far = sym (ap (λ ys. first_item f i (map view ys)) (drop_of_length-le xs l)) ∙ so_far

-- what is found in front is found, and else what is found behind
pub or_found : (o p : Option Wrong) (w : Wrong) → Some w ≡ o → Some w ≡ (o or p)
or_found o p w e = ap (λ x. x or p) e

pub or_next : (o p found : Option Wrong) → None ≡ o → found ≡ p → found ≡ (o or p)
or_next o p found e h = h ∙ ap (λ x. x or p) e
