-- The normal form of a bound value gives what the value gives.
use Rattle.smithy_unambiguity.proofs.Common.{◌≡◌, refl, sym, ◌∙◌, ap, ℕ, Bool, true, false, ◌||◌, List, [], ◌∷◌, map, Option, Some, option_map, option_and_then, option_map_or, and_parts, each, ShapeType, Schema, element_of, key_of, value_of, binding_of, Label, Value, Writes, no_writes, write, Write, list_of, text_of_key, is_in_range, fits, own_label, settled, settled_elements, entry_writes, map_value, is_kind, no_label, Place, Header, wire, listed, values_at, kind_or_none, map_entries, entries_of, entry_texts, texts, place_at, element_text, is_header_kind, has_element, unless_empty, with_own_elements, Pairs, all_put, look_ordered, last_ascending, cond_both}
use Rattle.smithy_ids.specs.declared.shape_type.ShapeType.TheVariants as kind
use Rattle.smithy_unambiguity.proofs.LastTexts.{last_value}
use Rattle.smithy_unambiguity.proofs.EntriesTold.{text_writes, own_list, own_value, as_text, last_of-texts}
use Rattle.smithy_unambiguity.proofs.Fits.{is_flat}
use Rattle.smithy_unambiguity.proofs.Headers.{header_values}
use Rattle.smithy_unambiguity.proofs.MemberTexts.{IsBoundValue, IsListOf, list_of_element, IsBoundList, bound_list}
use Rattle.smithy_unambiguity.proofs.PairLemmas.{valued, ordered_ascends}
use Rattle.smithy_unambiguity.proofs.Values.{AreItems, HaveFormat, flat_value, flat_settled, flat_own}

-- Lists.

elements_kept : (e : Schema) (k : ShapeType) (place : Place) (ws : Writes) → is_flat k ≡ true → AreItems k ws → HaveFormat e.node.traits.timestamp_format ws
    → each (element_text place) (list_of (settled_elements (Some e) ws)) ≡ each (element_text place) (list_of ws)
elements_kept e k place no_writes flat fit own = refl
elements_kept e k place (write l v ws) flat fit own =
    let value : settled (Some e) v ≡ v = flat_settled (Some e) v (flat_value k v flat (and_parts (is_in_range v) (fits k v) fit.0).1) in
    let rest = elements_kept e k place ws flat fit.1 own.1 in
    let format = own.0 in
    λ i. option_and_then (λ (y : List ℕ). option_map (λ (ys : List (List ℕ)). y ∷ ys) (rest i)) (wire (sym format i) false place (value i))

-- a list's texts are those of its normal form
pub list_texts_kept : (test : ShapeType → Bool) (m : Schema) (v : Value) (l : IsListOf test m) → is_flat l.element.node.kind ≡ true → (b : IsBoundList m l.element v) → texts m (with_own_elements m v) ≡ texts m v
list_texts_kept test m v l flat b =
    ap (λ u. texts m (with_own_elements m u)) b.is
    ∙ ap (λ (o : Option Schema). each (element_text (place_at (binding_of m))) (list_of (settled_elements o b.ws))) l.is
    ∙ elements_kept l.element l.element.node.kind (place_at (binding_of m)) b.ws flat b.items b.formats
    ∙ ap (texts m) (sym b.is)

-- a header's texts are those of its normal form
pub header_kept : (m : Schema) (v : Value) → (is_flat m.node.kind || has_element is_header_kind m) ≡ true → place_at (binding_of m) ≡ Header → IsBoundValue m v → header_values m (with_own_elements m v) ≡ header_values m v
header_kept m v kinds here is = go (is_flat m.node.kind) refl kinds
  where
    go : (t : Bool) → is_flat m.node.kind ≡ t → (t || has_element is_header_kind m) ≡ true → header_values m (with_own_elements m v) ≡ header_values m v
    go true flat h = ap (header_values m) (flat_own m v (flat_value m.node.kind v flat is.fits))
    go false flat h =
        let l = list_of_element is_header_kind m h in
        let b = bound_list is_header_kind m l v is in
        ap (λ u. header_values m (with_own_elements m u)) b.is
        ∙ ap (λ (o : Option (List (List ℕ))). option_map_or (λ (ts : List (List ℕ)). listed (kind_or_none (element_of m)) ts ∷ []) o [])
        (ap (λ u. texts m (with_own_elements m u)) (sym b.is) ∙ list_texts_kept is_header_kind m v l l.passes b ∙ ap (texts m) b.is)
        ∙ ap (header_values m) (sym b.is)

-- Entries in the order of their keys.

pub entries_back : {X : Type 0} (k l : Label) (g : X → Value) (h : Value → X) → ((x : X) → h (g x) ≡ x) → (qs : Pairs X) → valued h (entries_of (entry_writes k l (valued g qs))) ≡ qs
entries_back k l g h back [] = refl
entries_back k l g h back (q ∷ qs) = let here = back q.1 in let rest = entries_back k l g h back qs in λ i. (q.0, here i) ∷ rest i

-- a map gives the texts that it is made of, and so does what is left of it
pub map_left : {X : Type 0} (m : Schema) (g : X → Value) (h : Value → X) → ((x : X) → h (g x) ≡ x) → (qs : Pairs X)
    → option_map_or (λ v. valued h (map_entries v)) (unless_empty (map_value (Some m) (valued g qs))) [] ≡ qs
map_left m g h back [] = refl
map_left m g h back (q ∷ qs) = entries_back (own_label (key_of m) no_label) (own_label (value_of m) no_label) g h back (q ∷ qs)

texts_written : (l : Label) (ts : List (List ℕ)) → map (λ (w : Write). text_of_key w.value) (list_of (text_writes l ts)) ≡ ts
texts_written l [] = refl
texts_written l (t ∷ ts) = ap (λ us. t ∷ us) (texts_written l ts)

pub own_texts : (here : Option Schema) (ts : List (List ℕ)) → entry_texts (own_value here ts) ≡ ts
own_texts here [] = refl
own_texts here (t ∷ []) = cond_both (is_kind kind.String here) (as_text t) (own_list here (t ∷ [])) (λ v. entry_texts v ≡ t ∷ []) (λ e. refl) (λ e. refl)
own_texts here (t ∷ u ∷ ts) = texts_written (own_label (option_and_then element_of here) no_label) (t ∷ u ∷ ts)

pub ordered_last : (name : List ℕ) (ps : Pairs (List ℕ)) → last_value (values_at name (all_put ps [])) ≡ last_value (values_at name ps)
ordered_last name ps =
    sym (last_of-texts name (all_put ps [])) ∙ last_ascending name (all_put ps []) (ordered_ascends ps) ∙ look_ordered name ps ∙ last_of-texts name ps
