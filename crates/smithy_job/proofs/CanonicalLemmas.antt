-- The document of a JSON value is canonical.
use Rattle.std.proofs.Common.{refl, ℕ, List, [], ◌∷◌, IsTrue, IfSome, Option, Some, None, option_map, option_and_then, pos, negsuc}
use Rattle.std.specs.declared.cmp.Ordering.{Ordering}
use Rattle.std.specs.declared.cmp.Ordering.TheVariants.{Less, Equal, Greater}
use Rattle.std.specs.Ordering.{nat_cmp, match_ordering}
use Rattle.std.specs.Cmp.Lexicographic.{slice_cmp}
use Rattle.std.proofs.lemmas.Bool.{and_parts}
use Rattle.serde_json.specs.Data as json
use Rattle.serde_json.specs.Data.{Num, Data, Items, Members}
use Rattle.smithy_types.specs.Documents as doc
use Rattle.smithy_types.specs.Documents.{Document, put, put_all, is_canonical, are_canonical_items, are_canonical_members}
use Rattle.smithy_json.specs.FromData.{number_of_data, of_data, items_of_data, pairs_of_data}

put-canonical : (k : List ℕ) (d : Document) (ms : doc.Members) → IsTrue (is_canonical d) → IsTrue (are_canonical_members ms) → IsTrue (are_canonical_members (put k d ms))
put-canonical k d doc.no_members c h = rw c refl
put-canonical k d (doc.member l e ms) c h =
    let parts = and_parts (is_canonical e) (are_canonical_members ms) h in
    go (slice_cmp nat_cmp k l) parts.0 parts.1 (put-canonical k d ms c parts.1)
  where
    go : (o : Ordering) → IsTrue (is_canonical e) → IsTrue (are_canonical_members ms) → IsTrue (are_canonical_members (put k d ms))
        → IsTrue (are_canonical_members (match_ordering o (doc.member k d (doc.member l e ms)) (doc.member l d ms) (doc.member l e (put k d ms))))
    go Less first rest more = rw (c, first, rest) refl
    go Equal first rest more = rw (c, rest) refl
    go Greater first rest more = rw (first, more) refl

abbrev AreCanonical : List (List ℕ × Document) → Type 0
AreCanonical [] = Unit {0}
AreCanonical (p ∷ ps) = IsTrue (is_canonical p.1) × AreCanonical ps

put_all-canonical : (ps : List (List ℕ × Document)) (ms : doc.Members) → AreCanonical ps → IsTrue (are_canonical_members ms) → IsTrue (are_canonical_members (put_all ps ms))
put_all-canonical [] ms c h = h
put_all-canonical (p ∷ ps) ms c h = put_all-canonical ps (put p.0 p.1 ms) c.1 (put-canonical p.0 p.1 ms c.0 h)

number-canonical : (n : Num) → IfSome (option_map doc.number (number_of_data n)) (λ x. IsTrue (is_canonical x))
number-canonical (json.unsigned n) = refl
number-canonical (json.negative (pos n)) = refl
number-canonical (json.negative (negsuc n)) = refl
number-canonical (json.float x) = tt

array-canonical : (o : Option doc.Items) → IfSome o (λ xs. IsTrue (are_canonical_items xs)) → IfSome (option_map doc.array o) (λ x. IsTrue (is_canonical x))
array-canonical None h = tt
array-canonical (Some xs) h = h

object-canonical : (o : Option (List (List ℕ × Document))) → IfSome o AreCanonical → IfSome (option_map (λ ps. doc.object (doc.members_of ps)) o) (λ x. IsTrue (is_canonical x))
object-canonical None h = tt
object-canonical (Some ps) h = put_all-canonical ps doc.no_members h refl

item-canonical : (o : Option Document) (p : Option doc.Items) → IfSome o (λ x. IsTrue (is_canonical x)) → IfSome p (λ xs. IsTrue (are_canonical_items xs))
    → IfSome (option_and_then (λ x. option_map (doc.item x) p) o) (λ xs. IsTrue (are_canonical_items xs))
item-canonical None p h k = tt
item-canonical (Some x) None h k = tt
item-canonical (Some x) (Some xs) h k = rw (h, k) refl

pair-canonical : (name : List ℕ) (o : Option Document) (p : Option (List (List ℕ × Document))) → IfSome o (λ x. IsTrue (is_canonical x)) → IfSome p AreCanonical
    → IfSome (option_and_then (λ x. option_map (λ ps. (name, x) ∷ ps) p) o) AreCanonical
pair-canonical name None p h k = tt
pair-canonical name (Some x) None h k = tt
pair-canonical name (Some x) (Some ps) h k = (h, k)

mutual
  pub of_data-canonical : (d : Data) → IfSome (of_data d) (λ x. IsTrue (is_canonical x))
  of_data-canonical json.null = refl
  of_data-canonical (json.boolean b) = refl
  of_data-canonical (json.number n) = number-canonical n
  of_data-canonical (json.string s) = refl
  of_data-canonical (json.array ds) = array-canonical (items_of_data ds) (items_of_data-canonical ds)
  of_data-canonical (json.object ms) = object-canonical (pairs_of_data ms) (pairs_of_data-canonical ms)

  items_of_data-canonical : (ds : Items) → IfSome (items_of_data ds) (λ xs. IsTrue (are_canonical_items xs))
  items_of_data-canonical json.no_items = refl
  items_of_data-canonical (json.item d ds) = item-canonical (of_data d) (items_of_data ds) (of_data-canonical d) (items_of_data-canonical ds)

  pairs_of_data-canonical : (ms : Members) → IfSome (pairs_of_data ms) AreCanonical
  pairs_of_data-canonical json.no_members = tt
  pairs_of_data-canonical (json.member k d ms) = pair-canonical k (of_data d) (pairs_of_data ms) (of_data-canonical d) (pairs_of_data-canonical ms)
