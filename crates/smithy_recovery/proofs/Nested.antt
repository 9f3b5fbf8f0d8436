-- The levels of what is left of a list of parts.
use Rattle.std.proofs.Common.{◌≡◌, ℕ, ◌+◌, ◌<◌, ◌≤◌, max, nat_le, true, false, List, [], ◌∷◌, length, get_or, drop, map, refl, sym, ap, ◌∙◌, arith}
use Rattle.std.proofs.lemmas.List.{drop_more, drop_all}
use Rattle.std.proofs.lemmas.Bool.Decides.{nat_tests}
use Rattle.smithy_types.specs.Documents as doc
use Rattle.smithy_types.specs.Documents.{Document, Items, Members, items_of, nesting, items_nesting, members_nesting, list_of_members}
use Rattle.smithy_types.specs.DocumentView.{view}
use Rattle.smithy_types.specs.declared.document.Document as code

-- what is left is within a bound where all is, and not deeper
pub record Left (bound left all : ℕ) : Type 0 where
  pub same : nat_le left bound ≡ nat_le all bound
  pub below : left ≤ all

pub all_left : (bound left all : ℕ) → left ≡ all → Left bound left all
all_left bound left all e = record { same = ap (λ n. nat_le n bound) e; below = omega (arith, e) }

-- the greater of two is within a bound where both are
max_within : (a b n : ℕ) → nat_le a n ≡ true → nat_le (max a b) n ≡ nat_le b n
max_within a b n h = grind (arith, nat_tests)

max_past : (a b n : ℕ) → nat_le a n ≡ false → nat_le (max a b) n ≡ false
max_past a b n h = grind (arith, nat_tests)

none_past : (n : ℕ) → nat_le 0 n ≡ true
none_past n = grind (arith, nat_tests)

-- a part further
module _ (bound left all part more : ℕ) (first : left ≡ max part more) (l : Left bound left all) where
  pub part_below : part ≤ all
  part_below = omega (arith, first, l.below)

  pub left_more : nat_le part bound ≡ true → Left bound more all
  left_more h = record { same = sym (max_within part more bound h) ∙ ap (λ n. nat_le n bound) (sym first) ∙ l.same; below = omega (arith, first, l.below) }

  pub left_past : nat_le part bound ≡ false → false ≡ nat_le all bound
  left_past h = sym (max_past part more bound h) ∙ ap (λ n. nat_le n bound) (sym first) ∙ l.same

pub left_none : (bound left all : ℕ) → left ≡ 0 → Left bound left all → true ≡ nat_le all bound
left_none bound left all none l = sym (none_past bound) ∙ ap (λ n. nat_le n bound) (sym none) ∙ l.same

-- the items from a position on
abbrev pub items_left : List code.Document → ℕ → ℕ
items_left xs i = items_nesting (items_of (map view (drop i xs)))

pub first_item : (xs : List code.Document) (i : ℕ) (x : code.Document) → i < length xs → x ≡ get_or xs i x → items_left xs i ≡ max (nesting (view x)) (items_left xs (i + 1))
first_item xs i x within is = ap (λ ys. items_nesting (items_of (map view ys))) (drop_more xs i x within ∙ ap (λ y. y ∷ drop (i + 1) xs) (sym is))

pub no_item : (xs : List code.Document) (i : ℕ) → length xs ≤ i → items_left xs i ≡ 0
no_item xs i past = ap (λ ys. items_nesting (items_of (map view ys))) (drop_all i xs past)

-- the members of these pairs
abbrev pub pairs_nesting : List (List ℕ × Document) → ℕ
pairs_nesting [] = 0
pairs_nesting (p ∷ ps) = max (nesting p.1) (pairs_nesting ps)

pub pairs_nested : (ms : Members) → pairs_nesting (list_of_members ms) ≡ members_nesting ms
pairs_nested doc.no_members = refl
pairs_nested (doc.member k d ms) = ap (max (nesting d)) (pairs_nested ms)
