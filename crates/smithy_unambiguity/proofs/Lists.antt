-- Lists of which something holds at each element.
use Rattle.smithy_unambiguity.proofs.Common.{◌≡◌, refl, subst, ℕ, zero, suc, ◌+◌, arith, Bool, true, false, cond, List, [], ◌∷◌, ◌++◌, filter, filter_map, flat_map, slice_get, Option, Some, None, option_map, AllByRecursion, enumerate_from, cons_option, list_all, and_parts, and_from, cond_both, ap, ◌∙◌, ◌||◌, list_any, or_right, find, option_to_list}

pub all_apply : {X : Type 0} (P Q : X → Type 0) (xs : List X) → ((x : X) → P x → Q x) → AllByRecursion P xs → AllByRecursion Q xs
all_apply P Q [] f all = tt
all_apply P Q (x ∷ xs) f all = (f x all.0, all_apply P Q xs f all.1)

pub both_hold : {X : Type 0} (P Q : X → Type 0) (xs : List X) → AllByRecursion P xs → AllByRecursion Q xs → AllByRecursion (λ x. P x × Q x) xs
both_hold P Q [] a b = tt
both_hold P Q (x ∷ xs) a b = ((a.0, b.0), both_hold P Q xs a.1 b.1)

-- those that pass a test
pub all_kept : {X : Type 0} (P Q : X → Type 0) (test : X → Bool) (xs : List X) → ((x : X) → test x ≡ true → P x → Q x) → AllByRecursion P xs → AllByRecursion Q (filter test xs)
all_kept P Q test [] f all = tt
all_kept P Q test (x ∷ xs) f all =
    let rest = all_kept P Q test xs f all.1 in
    cond_both (test x) (x ∷ filter test xs) (filter test xs) (AllByRecursion Q) (λ e. (f x e all.0, rest)) (λ e. rest)

pub all_filter : {X : Type 0} (P : X → Type 0) (test : X → Bool) (xs : List X) → AllByRecursion P xs → AllByRecursion P (filter test xs)
all_filter P test xs all = all_kept P P test xs (λ x e h. h) all

pub all_passing : {X : Type 0} (P : X → Type 0) (test : X → Bool) (xs : List X) → AllByRecursion P (filter test xs) → AllByRecursion (λ x. test x ≡ true → P x) xs
all_passing P test [] all = tt
all_passing {X = X} P test (x ∷ xs) all = go (test x) all (all_passing P test xs)
  where
    go : (t : Bool) → AllByRecursion P (cond t (x ∷ filter test xs) (filter test xs)) → (AllByRecursion P (filter test xs) → AllByRecursion (λ y. test y ≡ true → P y) xs)
        → (t ≡ true → P x) × AllByRecursion (λ y. test y ≡ true → P y) xs
    go true h rest = ((λ e. h.0), rest h.1)
    go false h rest = ((λ e. absurd (cc e)), rest h)

-- the element at a place
pub all_get : {X : Type 0} (P : X → Type 0) (xs : List X) (i : ℕ) (x : X) → AllByRecursion P xs → slice_get xs i ≡ Some x → P x
all_get P [] i x all at = absurd (cc at)
all_get P (y ∷ xs) zero x all at = let same : y ≡ x = cc at in subst P same all.0
all_get P (y ∷ xs) (suc i) x all at = all_get P xs i x all.1 at

pub any_get : {X : Type 0} (p : X → Bool) (xs : List X) (i : ℕ) (x : X) → slice_get xs i ≡ Some x → p x ≡ true → list_any p xs ≡ true
any_get p [] i x at is = absurd (cc at)
any_get p (y ∷ xs) zero x at is = let same : y ≡ x = cc at in ap (λ b. b || list_any p xs) (ap p same ∙ is)
any_get p (y ∷ xs) (suc i) x at is = or_right (p y) (list_any p xs) (any_get p xs i x at is)

-- what alone passes is found first
pub found_alone : {X : Type 0} (p : X → Bool) (xs : List X) (o : Option X) → filter p xs ≡ option_to_list o → find p xs ≡ o
found_alone p [] None e = refl
found_alone p [] (Some x) e = absurd (cc e)
found_alone {X = X} p (x ∷ xs) o e = go (p x) e (found_alone p xs o)
  where
    only : (o : Option X) → x ∷ filter p xs ≡ option_to_list o → Some x ≡ o
    only None h = absurd (cc h)
    only (Some y) h = let same : x ≡ y = cc h in ap Some same

    go : (t : Bool) → cond t (x ∷ filter p xs) (filter p xs) ≡ option_to_list o → (filter p xs ≡ option_to_list o → find p xs ≡ o) → cond t (Some x) (find p xs) ≡ o
    go true h rest = only o h
    go false h rest = rest h

-- each element with its place
pub all_placed : {X : Type 0} (P : ℕ × X → Type 0) (k : ℕ) (xs : List X) → ((j : ℕ) (x : X) → slice_get xs j ≡ Some x → P (k + j, x)) → AllByRecursion P (enumerate_from k xs)
all_placed P k [] has = tt
all_placed P k (x ∷ xs) has =
    let none_more : k + 0 ≡ k = omega arith in (
      subst (λ i. P (i, x)) none_more (has 0 x refl),
      all_placed P (k + 1) xs (λ j y at.
          let one_more : k + suc j ≡ k + 1 + j = omega arith in subst (λ i. P (i, y)) one_more (has (suc j) y at)),
    )

-- what is made of those that have something
pub all_made : {X Y Z : Type 0} (P : Z → Type 0) (make : X → Y → Z) (has : X → Option Y) (xs : List X) → AllByRecursion (λ x. (y : Y) → has x ≡ Some y → P (make x y)) xs
    → AllByRecursion P (filter_map (λ x. option_map (make x) (has x)) xs)
all_made P make has [] all = tt
all_made {Y = Y} P make has (x ∷ xs) all = go (has x) all.0 (all_made P make has xs all.1)
  where
    go : (o : Option Y) → ((y : Y) → o ≡ Some y → P (make x y)) → AllByRecursion P (filter_map (λ x. option_map (make x) (has x)) xs)
        → AllByRecursion P (cons_option (option_map (make x) o) (filter_map (λ x. option_map (make x) (has x)) xs))
    go None each rest = rest
    go (Some y) each rest = (each y refl, rest)

pub filter_map_same : {X Y : Type 0} (f g : X → Option Y) (xs : List X) → AllByRecursion (λ x. f x ≡ g x) xs → filter_map f xs ≡ filter_map g xs
filter_map_same f g [] all = refl
filter_map_same f g (x ∷ xs) all = λ i. cons_option (all.0 i) (filter_map_same f g xs all.1 i)

-- a list that is made with positions and without
pub by_positions : {X Y : Type 0} (f : X → Option Y) (g : ℕ × X → Option Y) (k : ℕ) (xs : List X) → AllByRecursion (λ p. f p.1 ≡ g p) (enumerate_from k xs) → filter_map f xs ≡ filter_map g (enumerate_from k xs)
by_positions f g k [] all = refl
by_positions f g k (x ∷ xs) all = λ i. cons_option (all.0 i) (by_positions f g (k + 1) xs all.1 i)

pub all_append : {X : Type 0} (P : X → Type 0) (xs ys : List X) → AllByRecursion P xs → AllByRecursion P ys → AllByRecursion P (xs ++ ys)
all_append P [] ys a b = b
all_append P (x ∷ xs) ys a b = (a.0, all_append P xs ys a.1 b)

pub all_given : {X Y : Type 0} (P : Y → Type 0) (Q : X → Type 0) (g : X → List Y) (xs : List X) → ((x : X) → Q x → AllByRecursion P (g x)) → AllByRecursion Q xs → AllByRecursion P (flat_map g xs)
all_given P Q g [] f all = tt
all_given P Q g (x ∷ xs) f all = all_append P (g x) (flat_map g xs) (f x all.0) (all_given P Q g xs f all.1)

pub all_from_test : {X : Type 0} (test : X → Bool) (xs : List X) → list_all test xs ≡ true → AllByRecursion (λ x. test x ≡ true) xs
all_from_test test [] e = tt
all_from_test test (x ∷ xs) e = let parts = and_parts (test x) (list_all test xs) e in (parts.0, all_from_test test xs parts.1)

pub test_from_all : {X : Type 0} (test : X → Bool) (xs : List X) → AllByRecursion (λ x. test x ≡ true) xs → list_all test xs ≡ true
test_from_all test [] all = refl
test_from_all test (x ∷ xs) all = and_from (test x) (list_all test xs) all.0 (test_from_all test xs all.1)
