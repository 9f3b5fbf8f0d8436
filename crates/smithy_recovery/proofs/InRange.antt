-- The ranges of what is left of a list of parts.
use Rattle.std.proofs.Common.{◌≡◌, ℕ, suc, Fits, w64, lt-ltb, ◌+◌, ◌<◌, ◌≤◌, ◌^◌, nat_lt, Bool, true, false, ◌&&◌, List, [], ◌∷◌, length, get_or, drop, map, ℤ, pos, neg_ℤ, int_le, int_lt, FitsSigned, refl, sym, ap, subst, ◌∙◌, arith}
use Rattle.std.specs.List.Sorted.{IsStrictlySortedBy}
use Rattle.std.specs.Ordering.{match_ordering}
use Rattle.std.specs.Str.{is_utf8}
use Rattle.std.proofs.lemmas.List.{drop_more, drop_all}
use Rattle.std.proofs.lemmas.Int.{ints}
use Rattle.std.proofs.lemmas.Bool.{and_from, true_from_ne_false}
use mir.Syntax.{Width}
use mir.Val.{hbits}
use Rattle.smithy_types.specs.Documents as doc
use Rattle.smithy_types.specs.Documents.{Document, Items, Members, items_of, nesting, items_nesting, members_nesting, list_of_members}
use Rattle.smithy_types.specs.DocumentView.{view}
use Rattle.smithy_types.specs.Maps.{IsOrdered}
use Rattle.smithy_types.specs.declared.document.Document as code
use Rattle.smithy_serde.specs.Ranges.{is_document_in_range, are_items_in_range, are_members_in_range, is_before, is_signed_within, are_bytes, is_in_range, are_writes_in_range}
use Rattle.smithy_serde.specs.Values.{Label, Value, Writes, no_writes, write}
use Rattle.smithy_recovery.specs.Shallow.{value_nesting, writes_nesting}

-- the items from a position on are in range where all are, and not deeper
pub record ItemsLeft (left all : Items) : Type 0 where
  pub same : are_items_in_range left ≡ are_items_in_range all
  pub below : items_nesting left ≤ items_nesting all

abbrev pub items_from : List code.Document → ℕ → Items
items_from xs i = items_of (map view (drop i xs))

pub first_from : (xs : List code.Document) (i : ℕ) (x : code.Document) → i < length xs → x ≡ get_or xs i x → items_from xs i ≡ doc.item (view x) (items_from xs (i + 1))
first_from xs i x within is = ap (λ ys. items_of (map view ys)) (drop_more xs i x within ∙ ap (λ y. y ∷ drop (i + 1) xs) (sym is))

pub none_from : (xs : List code.Document) (i : ℕ) → length xs ≤ i → items_from xs i ≡ doc.no_items
none_from xs i past = ap (λ ys. items_of (map view ys)) (drop_all i xs past)

pub all_items : (left all : Items) → left ≡ all → ItemsLeft left all
all_items left all e = let depths = ap items_nesting e in record { same = ap are_items_in_range e; below = omega (arith, depths) }

module _ (left all more : Items) (d : Document) (first : left ≡ doc.item d more) (l : ItemsLeft left all) where
  pub item_below : nesting d ≤ items_nesting all
  item_below = let depths = ap items_nesting first in omega (arith, depths, l.below)

  pub items_more : is_document_in_range d ≡ true → ItemsLeft more all
  items_more h = let depths = ap items_nesting first in record {
    same = sym (ap are_items_in_range first ∙ ap (λ b. b && are_items_in_range more) h) ∙ l.same;
    below = omega (arith, depths, l.below);
  }

  pub items_past : is_document_in_range d ≡ false → false ≡ are_items_in_range all
  items_past h = sym (ap are_items_in_range first ∙ ap (λ b. b && are_items_in_range more) h) ∙ l.same

pub items_end : (left all : Items) → left ≡ doc.no_items → ItemsLeft left all → true ≡ are_items_in_range all
items_end left all none l = sym (ap are_items_in_range none) ∙ l.same

-- the members of these pairs
abbrev pub members_from : List (List ℕ × Document) → Members
members_from [] = doc.no_members
members_from (p ∷ ps) = doc.member p.0 p.1 (members_from ps)

members_from_list : (ms : Members) → members_from (list_of_members ms) ≡ ms
members_from_list doc.no_members = refl
members_from_list (doc.member k d ms) = ap (doc.member k d) (members_from_list ms)

-- the members that are left, whose names ascend
pub record MembersLeft (left : List (List ℕ × Document)) (all : Members) : Type 0 where
  pub same : are_members_in_range (members_from left) ≡ are_members_in_range all
  pub below : members_nesting (members_from left) ≤ members_nesting all
  pub ordered : IsOrdered left

pub all_members : (left : List (List ℕ × Document)) (all : Members) → left ≡ list_of_members all → IsOrdered (list_of_members all) → MembersLeft left all
all_members left all e ordered =
    let whole = ap members_from e ∙ members_from_list all in
    let depths = ap members_nesting whole in
    record { same = ap are_members_in_range whole; below = omega (arith, depths); ordered = subst (λ ps. IsOrdered ps) (sym e) ordered }

stands_before : (name : List ℕ) (d : Document) (more : List (List ℕ × Document)) → IsOrdered ((name, d) ∷ more) → is_before name (members_from more) ≡ true
unfolding IsStrictlySortedBy
stands_before name d [] h = refl
stands_before name d (p ∷ more) h = ap (λ o. match_ordering o true false false) h.0.0

ordered_behind : (p : List ℕ × Document) (more : List (List ℕ × Document)) → IsOrdered (p ∷ more) → IsOrdered more
unfolding IsStrictlySortedBy
ordered_behind p more h = h.1

module _ (left more : List (List ℕ × Document)) (all : Members) (name : List ℕ) (d : Document) (first : left ≡ (name, d) ∷ more) (l : MembersLeft left all) where
  pub member_below : nesting d ≤ members_nesting all
  member_below = let depths = ap (λ ps. members_nesting (members_from ps)) first in omega (arith, depths, l.below)

  ordered : IsOrdered ((name, d) ∷ more)
  ordered = subst (λ ps. IsOrdered ps) first l.ordered

  tested : (a b : Bool) → is_utf8 name ≡ a → is_document_in_range d ≡ b → (a && b && true && are_members_in_range (members_from more)) ≡ are_members_in_range all
  tested a b e f =
      sym (ap (λ ps. are_members_in_range (members_from ps)) first
      ∙ ap (λ x. x && is_document_in_range d && is_before name (members_from more) && are_members_in_range (members_from more)) e
      ∙ ap (λ x. a && x && is_before name (members_from more) && are_members_in_range (members_from more)) f
      ∙ ap (λ x. a && b && x && are_members_in_range (members_from more)) (stands_before name d more ordered))
      ∙ l.same

  pub members_more : is_utf8 name ≡ true → is_document_in_range d ≡ true → MembersLeft more all
  members_more e f = let depths = ap (λ ps. members_nesting (members_from ps)) first in record {
    same = tested true true e f;
    below = omega (arith, depths, l.below);
    ordered = ordered_behind (name, d) more ordered;
  }

  pub name_past : is_utf8 name ≡ false → false ≡ are_members_in_range all
  name_past e = tested false (is_document_in_range d) e refl

  pub member_past : is_utf8 name ≡ true → is_document_in_range d ≡ false → false ≡ are_members_in_range all
  member_past e f = tested true false e f

pub members_end : (left : List (List ℕ × Document)) (all : Members) → left ≡ [] → MembersLeft left all → true ≡ are_members_in_range all
members_end left all none l = sym (ap (λ ps. are_members_in_range (members_from ps)) none) ∙ l.same

-- the writes that are left are in range where all are, and not deeper
pub record WritesLeft (left all : Writes) : Type 0 where
  pub same : are_writes_in_range left ≡ are_writes_in_range all
  pub below : writes_nesting left ≤ writes_nesting all

pub all_writes : (left all : Writes) → left ≡ all → WritesLeft left all
all_writes left all e = let depths = ap writes_nesting e in record { same = ap are_writes_in_range e; below = omega (arith, depths) }

module _ (left all more : Writes) (l : Label) (v : Value) (first : left ≡ write l v more) (w : WritesLeft left all) where
  pub value_below : value_nesting v ≤ writes_nesting all
  value_below = let depths = ap writes_nesting first in omega (arith, depths, w.below)

  pub writes_more : is_in_range v ≡ true → WritesLeft more all
  writes_more h = let depths = ap writes_nesting first in record {
    same = sym (ap are_writes_in_range first ∙ ap (λ b. b && are_writes_in_range more) h) ∙ w.same;
    below = omega (arith, depths, w.below);
  }

  pub writes_past : is_in_range v ≡ false → false ≡ are_writes_in_range all
  writes_past h = sym (ap are_writes_in_range first ∙ ap (λ b. b && are_writes_in_range more) h) ∙ w.same

pub writes_end : (left all : Writes) → left ≡ no_writes → WritesLeft left all → true ≡ are_writes_in_range all
writes_end left all none w = sym (ap are_writes_in_range none) ∙ w.same

-- numbers and bytes of a program

pub fits_within : (w : Width) (z : ℤ) → FitsSigned w z → true ≡ is_signed_within (2 ^ hbits w) z
fits_within w z fits =
    sym (and_from _ _ (true_from_ne_false (int_le (neg_ℤ (pos (2 ^ hbits w))) z) (λ e. omega (arith, ints))) (true_from_ne_false (int_lt z (pos (2 ^ hbits w))) (λ e. omega (arith, ints))))

pub fits_below : (n : ℕ) → Fits w64 n → true ≡ nat_lt n (2 ^ 64)
fits_below n fits = sym (lt-ltb n (2 ^ 64) fits.fits)

pub bytes_within : (bytes : List ℕ) → ((k : ℕ) → get_or bytes k 0 < 256) → true ≡ are_bytes bytes
bytes_within [] each = refl
bytes_within (b ∷ bytes) each = sym (and_from _ _ (lt-ltb b 256 (each 0)) (sym (bytes_within bytes (λ k. each (suc k)))))
