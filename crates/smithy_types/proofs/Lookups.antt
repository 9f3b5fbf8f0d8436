-- What stands at a place or at a key.
use Rattle.std.proofs.Common.{◌≡◌, ℕ, List, [], ◌∷◌, map, length, Option, Some, None, option_map, Bor, refl, sym, ap, subst, ◌∙◌, string_cmp, String, Global, string_bytes, nat_cmp}
use Rattle.std.specs.Cmp.Lexicographic.{slice_cmp}
use Rattle.std.proofs.lemmas.Iterator.{YieldsList}
use Rattle.std.specs.List.{slice_get}
use Rattle.std.specs.Slice.{IsItemAt}
use Rattle.std.specs.Map.{lookup, keys_of, values_of}
use Rattle.std.specs.Map.Iter.{TakesFirst, deref}
use Rattle.std.proofs.lemmas.Iterator.Consumers.{YieldsList-from_shown}
use Rattle.std.specs.BTreeMap.{is_at}
use Rattle.std.proofs.lemmas.Option.{slice_get_past, slice_get_read, slice_get-map}
use Rattle.smithy_types.specs.declared.document.Document.{Document}
use Rattle.smithy_types.specs.declared.document.Documents.{Documents, out-Documents}
use Rattle.smithy_types.specs.declared.document.Members.{Members, out-Members}
use Rattle.smithy_types.specs.Documents as doc
use Rattle.smithy_types.specs.Documents.{items_of, list_of_items, list_of_members}
use Rattle.smithy_types.specs.views.DocumentView.{view, pair_view, items_view, members_view}
use Rattle.smithy_types.specs.Texts.{same_text}
use Rattle.smithy_types.proofs.MapLemmas.{lookup-pairs_of, IsOrdered-pairs_of}
use Rattle.smithy_types.specs.Maps.{IsOrdered}
use Rattle.std.specs.List.Sorted.{IsStrictlySortedBy}
use Rattle.smithy_types.proofs.Views.{Entry, entries_view, items_out, members_out}

option_map-option_map : {A B C : Type 0} (f : B → C) (g : A → B) (o : Option A) → option_map f (option_map g o) ≡ option_map (λ x. f (g x)) o
option_map-option_map f g None = refl
option_map-option_map f g (Some x) = refl

item_at : {X : Type 0} (xs : List X) (i : ℕ) (r : Option (Bor X)) → IsItemAt xs i r → option_map (λ x. x.now) r ≡ slice_get xs i
item_at xs i None h = sym (slice_get_past xs i h.3)
item_at xs i (Some x) h = sym (slice_get_read xs (length xs) i x.now refl h.3.0 h.1)

-- the item that a slice lends at a place, seen
pub seen_at : {X Y : Type 0} (see : X → Y) (xs : List X) (i : ℕ) (r : Option (Bor X)) → IsItemAt xs i r → option_map (λ x. see x.now) r ≡ slice_get (map see xs) i
seen_at see xs i r h = sym (option_map-option_map see (λ x. x.now) r) ∙ ap (option_map see) (item_at xs i r h) ∙ sym (slice_get-map see xs i)

pub list_of_items-items_of : (ds : List doc.Document) → list_of_items (items_of ds) ≡ ds
list_of_items-items_of [] = refl
list_of_items-items_of (d ∷ ds) = ap (λ l. d ∷ l) (list_of_items-items_of ds)

pub list_of_members-entries_view : (es : List Entry) → list_of_members (entries_view es) ≡ map pair_view es
list_of_members-entries_view [] = refl
list_of_members-entries_view (e ∷ es) = ap (λ l. pair_view e ∷ l) (list_of_members-entries_view es)

-- a look-up by the bytes of the key
pub lookup-entries_view : (key : List ℕ) (es : List Entry) → option_map view (lookup (is_at (λ k. slice_cmp nat_cmp key (string_bytes k))) es) ≡ lookup (same_text key) (list_of_members (entries_view es))
lookup-entries_view key es = lookup-pairs_of view key es ∙ ap (lookup (same_text key)) (sym (list_of_members-entries_view es))

-- the documents of a list, seen
pub list_of_items_view : (ds : Documents) → list_of_items (items_view ds) ≡ map view (out-Documents ds).items.items
list_of_items_view ds = ap list_of_items (items_out ds) ∙ list_of_items-items_of (map view (out-Documents ds).items.items)

-- the members of a map, seen
pub list_of_members_view : (ms : Members) → list_of_members (members_view ms) ≡ map pair_view (out-Members ms).entries.entries
list_of_members_view ms = ap list_of_members (members_out ms) ∙ list_of_members-entries_view (out-Members ms).entries.entries

-- what a walk over the keys gives at a place
pub key_at_place : (es : List Entry) (i : ℕ) (o : Option (Bor (String Global))) → option_map deref o ≡ slice_get (keys_of es) i
    → option_map (λ k. string_bytes k.now) o ≡ option_map (λ m. m.0) (slice_get (map pair_view es) i)
key_at_place es i o e =
    sym (option_map-option_map string_bytes deref o)
    ∙ ap (option_map string_bytes) e
    ∙ ap (option_map string_bytes) (slice_get-map (λ p. p.0) es i)
    ∙ option_map-option_map string_bytes (λ (p : Entry). p.0) (slice_get es i)
    ∙ sym (option_map-option_map (λ m. m.0) pair_view (slice_get es i))
    ∙ ap (option_map (λ m. m.0)) (sym (slice_get-map pair_view es i))

-- and over the values
pub value_at_place : (es : List Entry) (i : ℕ) (o : Option (Bor Document)) → option_map deref o ≡ slice_get (values_of es) i
    → option_map (λ d. view d.now) o ≡ option_map (λ m. m.1) (slice_get (map pair_view es) i)
value_at_place es i o e =
    sym (option_map-option_map view deref o)
    ∙ ap (option_map view) e
    ∙ ap (option_map view) (slice_get-map (λ p. p.1) es i)
    ∙ option_map-option_map view (λ (p : Entry). p.1) (slice_get es i)
    ∙ sym (option_map-option_map (λ m. m.1) pair_view (slice_get es i))
    ∙ ap (option_map (λ m. m.1)) (sym (slice_get-map pair_view es i))

-- a walk over a part of a map gives what is left of it, in order
pub yields_shown : {X : Type 0} (s : List X) → YieldsList (TakesFirst (deref {X = X})) (deref {X = X}) s s
yields_shown s = YieldsList-from_shown (TakesFirst deref) deref (λ t. t) (λ s t h. ap length h.0) (λ s x t h. h) s

-- what a look-up lends, seen
pub lookup_seen : (r : Option (Bor Document)) (o : Option Document) → option_map (λ x. x.now) r ≡ o → option_map (λ d. view d.now) r ≡ option_map view o
lookup_seen r o e = sym (option_map-option_map view (λ x. x.now) r) ∙ ap (option_map view) e

-- the names of a map's members ascend
pub members_ordered : (ms : Members) → IsStrictlySortedBy string_cmp (keys_of (out-Members ms).entries.entries) → IsOrdered (list_of_members (members_view ms))
members_ordered ms h =
    let P : List (List ℕ × doc.Document) → Type 0 = IsOrdered in
    subst P (sym (list_of_members_view ms)) (IsOrdered-pairs_of view (out-Members ms).entries.entries h)
