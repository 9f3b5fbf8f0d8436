-- What a walk over a list answers, whose items are read through a view.
use Rattle.smithy_binding.proofs.Common.{◌≡◌, refl, ap, sym, ◌∙◌, ℕ, zero, suc, ◌<◌, Bool, true, false, ◌||◌, List, [], ◌∷◌, map, length, arith, list_all, list_any, AllWithin, HoldsAt, list_all-map, list_all_at, list_all-from_AllPass}
use Rattle.std.specs.Bool.{MatchBool}
use Rattle.std.proofs.lemmas.List.Elements.{All-from_all_within}

-- each item passes, or one does not
abbrev pub Checks : {X : Type 0} → (X → Bool) → List X → Bool → Type 0
Checks q xs r = MatchBool r (AllWithin (λ x. q x ≡ true) xs 0 (length xs)) ((k : ℕ) × (k < length xs) × HoldsAt (λ x. q x ≡ false) xs k)

one_fails : {X : Type 0} (q : X → Bool) (xs : List X) (k : ℕ) → k < length xs → HoldsAt (λ x. q x ≡ false) xs k → list_all q xs ≡ false
one_fails q [] k l h = absurd (omega (arith, l))
one_fails q (x ∷ xs) k l h = list_all_at q (x ∷ xs) k x l (h x)

pub all_items : {X Y : Type 0} (p : Y → Bool) (view : X → Y) (xs : List X) (r : Bool) → Checks (λ x. p (view x)) xs r → r ≡ list_all p (map view xs)
all_items p view xs true h = sym (list_all-map p view xs ∙ list_all-from_AllPass (λ x. p (view x)) xs (All-from_all_within (λ x. p (view x) ≡ true) xs h))
all_items p view xs false h = sym (list_all-map p view xs ∙ one_fails (λ x. p (view x)) xs h.0 h.1 h.2)

-- some item passes, or none does
abbrev pub Finds : {X : Type 0} → (X → Bool) → List X → Bool → Type 0
Finds q xs r = MatchBool r ((k : ℕ) × (k < length xs) × HoldsAt (λ x. q x ≡ true) xs k) (AllWithin (λ x. q x ≡ false) xs 0 (length xs))

none_pass : {X : Type 0} (q : X → Bool) (xs : List X) → AllWithin (λ x. q x ≡ false) xs 0 (length xs) → list_any q xs ≡ false
none_pass q [] h = refl
none_pass q (x ∷ xs) h = rw (h 0 x (omega arith) (omega arith)) (none_pass q xs (λ k d low l. h (suc k) d (omega arith) (omega (arith, l))))

one_passes : {X : Type 0} (q : X → Bool) (xs : List X) (k : ℕ) → k < length xs → HoldsAt (λ x. q x ≡ true) xs k → list_any q xs ≡ true
one_passes q [] k l h = absurd (omega (arith, l))
one_passes q (x ∷ xs) zero l h = rw (h x) refl
one_passes q (x ∷ xs) (suc k) l h = go (q x) (one_passes q xs k (omega (arith, l)) h)
  where
    go : (b : Bool) → list_any q xs ≡ true → (b || list_any q xs) ≡ true
    go true e = refl
    go false e = e

list_any-map : {X Y : Type 0} (p : Y → Bool) (view : X → Y) (xs : List X) → list_any p (map view xs) ≡ list_any (λ x. p (view x)) xs
list_any-map p view [] = refl
list_any-map p view (x ∷ xs) = ap (λ b. p (view x) || b) (list_any-map p view xs)

pub any_item : {X Y : Type 0} (p : Y → Bool) (view : X → Y) (xs : List X) (r : Bool) → Finds (λ x. p (view x)) xs r → r ≡ list_any p (map view xs)
any_item p view xs true h = sym (list_any-map p view xs ∙ one_passes (λ x. p (view x)) xs h.0 h.1 h.2)
any_item p view xs false h = sym (list_any-map p view xs ∙ none_pass (λ x. p (view x)) xs h)
