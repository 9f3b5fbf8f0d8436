-- A map of std, seen as its pairs.
use Rattle.std.proofs.Common.{◌≡◌, refl, sym, ap, ◌∙◌, ℕ, Bool, true, false, cond, Option, Some, None, option_map, List, [], ◌∷◌, map, String, Global, Ordering, Less, Equal, Greater, string_bytes, string_cmp, nat_cmp}
use Rattle.std.specs.BTreeMap.{insert_entry, is_at}
use Rattle.std.specs.Cmp.Lexicographic.{slice_cmp}
use Rattle.std.specs.List.{AllByRecursion}
use Rattle.std.specs.List.Sorted.{IsStrictlySortedBy}
use Rattle.std.specs.Map.{keys_of, lookup}
use Rattle.std.specs.Ordering.{match_ordering}
use Rattle.std.proofs.lemmas.Map.Text.{is_eq-slice_cmp}
use Rattle.smithy_types.specs.views.MapViews.{pair_of}
use Rattle.smithy_types.specs.Maps.{with_value, IsOrdered}
use Rattle.smithy_types.specs.Texts.{same_text}

abbrev Entry : Type 0
Entry = String Global × List ℕ

pairs-match_ordering : (o : Ordering) (a b c : List Entry) → map pair_of (match_ordering o a b c) ≡ match_ordering o (map pair_of a) (map pair_of b) (map pair_of c)
pairs-match_ordering Less a b c = refl
pairs-match_ordering Equal a b c = refl
pairs-match_ordering Greater a b c = refl

pub pairs-insert_entry : (es : List Entry) (k : String Global) (v : List ℕ) → map pair_of (insert_entry string_cmp es k v) ≡ with_value (string_bytes k) v (map pair_of es)
pairs-insert_entry [] k v = refl
pairs-insert_entry (e ∷ es) k v = pairs-match_ordering (string_cmp k e.0) _ _ _ ∙ rw (pairs-insert_entry es k v)

-- entries whose values are seen as others
module _ {X Y : Type 0} (see : X → Y) where
  abbrev pub pairs_of : List (String Global × X) → List (List ℕ × Y)
  pairs_of es = map (λ e. (string_bytes e.0, see e.1)) es

  cond-map : (b : Bool) (x : X) (o : Option X) → option_map see (cond b (Some x) o) ≡ cond b (Some (see x)) (option_map see o)
  cond-map true x o = refl
  cond-map false x o = refl

  -- a look-up by order finds what one by equality finds
  pub lookup-pairs_of : (q : List ℕ) (es : List (String Global × X)) → option_map see (lookup (is_at (λ (k : String Global). slice_cmp nat_cmp q (string_bytes k))) es) ≡ lookup (same_text q) (pairs_of es)
  lookup-pairs_of q [] = refl
  lookup-pairs_of q (e ∷ es) =
      cond-map (is_at (λ (k : String Global). slice_cmp nat_cmp q (string_bytes k)) e.0) e.1 (lookup (is_at (λ (k : String Global). slice_cmp nat_cmp q (string_bytes k))) es)
      ∙ ap (λ b. cond b (Some (see e.1)) (option_map see (lookup (is_at (λ (k : String Global). slice_cmp nat_cmp q (string_bytes k))) es))) (is_eq-slice_cmp q (string_bytes e.0))
      ∙ ap (cond (same_text q (string_bytes e.0)) (Some (see e.1))) (lookup-pairs_of q es)

  below-pairs_of : (k : List ℕ) (es : List (String Global × X)) → AllByRecursion (λ (y : String Global). slice_cmp nat_cmp k (string_bytes y) ≡ Less) (keys_of es)
      → AllByRecursion (λ y. slice_cmp nat_cmp k y ≡ Less) (keys_of (pairs_of es))
  below-pairs_of k [] h = tt
  below-pairs_of k (e ∷ es) h = (h.0, below-pairs_of k es h.1)

  pub IsOrdered-pairs_of : (es : List (String Global × X)) → IsStrictlySortedBy string_cmp (keys_of es) → IsOrdered (pairs_of es)
  unfolding IsStrictlySortedBy
  IsOrdered-pairs_of [] h = tt
  IsOrdered-pairs_of (e ∷ es) h = (below-pairs_of (string_bytes e.0) es h.0, IsOrdered-pairs_of es h.1)

option_map-same : {X : Type 0} (o : Option X) → option_map (λ x. x) o ≡ o
option_map-same None = refl
option_map-same (Some x) = refl

pub lookup-pairs : (q : List ℕ) (es : List Entry) → lookup (is_at (λ (k : String Global). slice_cmp nat_cmp q (string_bytes k))) es ≡ lookup (same_text q) (map pair_of es)
lookup-pairs q es = sym (option_map-same (lookup (is_at (λ (k : String Global). slice_cmp nat_cmp q (string_bytes k))) es)) ∙ lookup-pairs_of (λ (x : List ℕ). x) q es

pub IsOrdered-pairs : (es : List Entry) → IsStrictlySortedBy string_cmp (keys_of es) → IsOrdered (map pair_of es)
IsOrdered-pairs es h = IsOrdered-pairs_of (λ (x : List ℕ). x) es h
