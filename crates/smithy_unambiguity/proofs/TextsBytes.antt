-- The texts of labels and of the query, and the names in the query, are bytes.
use Rattle.smithy_unambiguity.proofs.Common.{◌≡◌, refl, sym, ◌∙◌, ap, subst, ℕ, true, false, ◌&&◌, List, [], ◌∷◌, map, filter, flat_map, Option, Some, None, option_map, unwrap_or, is_some, AllByRecursion, is_utf8, and_parts, each, Schema, member_at, name_of, Binding, to_query, to_query_map, to_label, binding_of, Value, Writes, no_writes, write, Write, list_of, text_of_key, is_in_range, are_writes_in_range, are_in_range, Resolved, all_resolved, firsts, AreBytes, Place, labels, labelled_at, pairs, pairs_at, query_names, texts, map_entries, entries_of, entry_texts, pairs_with, place_at, entry_pairs, member_text, element_text, labelled, pairs_of, has_key_outside, writes_fault, is_well_made, has_utf8, utf8_from_low, wire_utf8}
use Rattle.smithy_serde.specs.Values as value
use Rattle.smithy_strings.proofs.Bytes.{AreBytes-from_utf8}
use Rattle.smithy_unambiguity.proofs.Traits.{trait_of}
use Rattle.smithy_unambiguity.proofs.Conforming.{resolved_at, IsFittingWrite, fitting_writes}
use Rattle.smithy_unambiguity.proofs.Firsts.{all_firsts}
use Rattle.smithy_unambiguity.proofs.Members.{member_in_place}
use Rattle.smithy_unambiguity.proofs.Lists.{all_apply, both_hold, all_filter, all_given}
use Rattle.smithy_unambiguity.proofs.Values.{each_first}
use Rattle.smithy_unambiguity.proofs.Paths.{HaveBytes}

-- each text is UTF-8
abbrev pub AreUtf8 : List (List ℕ) → Type 0
AreUtf8 ts = AllByRecursion (λ t. is_utf8 t ≡ true) ts

elements_utf8 : (place : Place) (ws : Writes) (ts : List (List ℕ)) → are_writes_in_range ws ≡ true → each (element_text place) (list_of ws) ≡ Some ts → AreUtf8 ts
elements_utf8 place no_writes ts range e = let same : [] ≡ ts = cc e in subst AreUtf8 same tt
elements_utf8 place (write l v ws) ts range e =
    let x = each_first (element_text place) (record { label = l; value = v }) (list_of ws) ts e in
    let parts = and_parts (is_in_range v) (are_writes_in_range ws) range in
    subst AreUtf8 x.is (wire_utf8 l.time_format false place v x.text parts.0 x.first, elements_utf8 place ws x.rest parts.1 x.later)

one_utf8 : (m : Schema) (v : Value) → is_in_range v ≡ true → AreUtf8 (unwrap_or (option_map (λ t. t ∷ []) (member_text (place_at (binding_of m)) m v)) [])
one_utf8 m v range = go (member_text (place_at (binding_of m)) m v) refl
  where
    go : (o : Option (List ℕ)) → member_text (place_at (binding_of m)) m v ≡ o → AreUtf8 (unwrap_or (option_map (λ t. t ∷ []) o) [])
    go None e = tt
    go (Some t) e = (wire_utf8 m.node.traits.timestamp_format (is_some m.node.traits.media_type) (place_at (binding_of m)) v t range e, tt)

pub texts_utf8 : (m : Schema) (v : Value) → is_in_range v ≡ true → AreUtf8 (unwrap_or (texts m v) [])
texts_utf8 m (value.list ws) range = go (each (element_text (place_at (binding_of m))) (list_of ws)) refl
  where
    go : (o : Option (List (List ℕ))) → each (element_text (place_at (binding_of m))) (list_of ws) ≡ o → AreUtf8 (unwrap_or o [])
    go None e = tt
    go (Some ts) e = elements_utf8 (place_at (binding_of m)) ws ts range e
texts_utf8 m (value.map ws) range = tt
texts_utf8 m (value.scalar x) range = one_utf8 m (value.scalar x) range
texts_utf8 m (value.structure ws) range = one_utf8 m (value.structure ws) range

-- a pair of a name and a text
abbrev pub IsBytePair : List ℕ × List ℕ → Type 0
IsBytePair p = AreBytes p.0 × AreBytes p.1

-- of UTF-8 both
abbrev pub IsTextPair : List ℕ × List ℕ → Type 0
IsTextPair p = (is_utf8 p.0 ≡ true) × (is_utf8 p.1 ≡ true)

under_utf8 : (name : List ℕ) (ts : List (List ℕ)) → is_utf8 name ≡ true → AreUtf8 ts → AllByRecursion IsTextPair (pairs_with name ts)
under_utf8 name [] utf8 all = tt
under_utf8 name (t ∷ ts) utf8 all = ((utf8, all.0), under_utf8 name ts utf8 all.1)

labelled_bytes : (name : List ℕ) (ts : List (List ℕ)) → AreUtf8 ts → HaveBytes (pairs_with name ts)
labelled_bytes name [] all = tt
labelled_bytes name (t ∷ ts) all = (AreBytes-from_utf8 t all.0, labelled_bytes name ts all.1)

pub text_utf8 : (v : Value) → is_in_range v ≡ true → is_utf8 (text_of_key v) ≡ true
text_utf8 (value.scalar (value.text t)) range = range
text_utf8 _ range = utf8_from_low [] refl

items_utf8 : (ws : Writes) → are_writes_in_range ws ≡ true → AreUtf8 (map (λ (w : Write). text_of_key w.value) (list_of ws))
items_utf8 no_writes range = tt
items_utf8 (write l v ws) range =
    let parts = and_parts (is_in_range v) (are_writes_in_range ws) range in
    (text_utf8 v parts.0, items_utf8 ws parts.1)

pub entry_utf8 : (v : Value) → is_in_range v ≡ true → AreUtf8 (entry_texts v)
entry_utf8 (value.list ws) range = items_utf8 ws range
entry_utf8 (value.scalar s) range = (text_utf8 (value.scalar s) range, tt)
entry_utf8 (value.map ws) range = (utf8_from_low [] refl, tt)
entry_utf8 (value.structure ws) range = (utf8_from_low [] refl, tt)

-- the key of an entry and its value
abbrev pub IsEntryInRange : List ℕ × Value → Type 0
IsEntryInRange e = (is_utf8 e.0 ≡ true) × (is_in_range e.1 ≡ true)

entries_in_range : (ws : Writes) → are_writes_in_range ws ≡ true → AllByRecursion IsEntryInRange (entries_of ws)
entries_in_range no_writes range = tt
entries_in_range (write k key no_writes) range = tt
entries_in_range (write k key (write l v ws)) range =
    let a = and_parts (is_in_range key) (is_in_range v && are_writes_in_range ws) range in
    let b = and_parts (is_in_range v) (are_writes_in_range ws) a.1 in
    ((text_utf8 key a.0, b.0), entries_in_range ws b.1)

pub map_in_range : (v : Value) → is_in_range v ≡ true → AllByRecursion IsEntryInRange (map_entries v)
map_in_range (value.map ws) range = entries_in_range ws range
map_in_range (value.scalar s) range = tt
map_in_range (value.list ws) range = tt
map_in_range (value.structure ws) range = tt

entries_utf8 : (es : List (List ℕ × Value)) → AllByRecursion IsEntryInRange es → AllByRecursion IsTextPair (flat_map entry_pairs es)
entries_utf8 es all = all_given IsTextPair IsEntryInRange entry_pairs es (λ e range. under_utf8 e.0 (entry_texts e.1) range.0 (entry_utf8 e.1 range.1)) all

labelled_at_bytes : (b : Binding) (m : Schema) (v : Value) → is_in_range v ≡ true → HaveBytes (labelled_at b m v)
labelled_at_bytes to_label m v range = labelled_bytes (name_of m) (unwrap_or (texts m v) []) (texts_utf8 m v range)
labelled_at_bytes _ m v range = tt

pub labels_are_bytes : (schema : Schema) (ws : List Write) → writes_fault schema [] ws ≡ None → are_in_range ws ≡ true → HaveBytes (labels schema ws)
unfolding labels
labels_are_bytes schema ws conforming range =
    all_given (λ p. AreBytes p.1) IsFittingWrite labelled (firsts schema ws) (λ r fitting. labelled_at_bytes (binding_of r.member) r.member r.value fitting.in_range)
    (all_firsts IsFittingWrite (all_resolved schema ws) (fitting_writes schema ws conforming range))

pub pairs_are_utf8 : (schema : Schema) (ws : List Write) → is_well_made schema ≡ true → writes_fault schema [] ws ≡ None → are_in_range ws ≡ true → AllByRecursion IsTextPair (pairs schema ws)
unfolding pairs
pairs_are_utf8 schema ws well_made conforming range =
    all_given IsTextPair Both (pairs_of schema) (firsts schema ws) (λ r both. by r both (binding_of r.member) refl)
    (all_firsts Both (all_resolved schema ws) (both_hold IsFittingWrite (λ r. member_at schema r.position ≡ Some r.member) (all_resolved schema ws) (fitting_writes schema ws conforming range) (resolved_at schema ws)))
  where
    Both : Resolved → Type 0
    Both r = IsFittingWrite r × (member_at schema r.position ≡ Some r.member)

    by : (r : Resolved) → IsFittingWrite r × (member_at schema r.position ≡ Some r.member) → (b : Binding) → binding_of r.member ≡ b → AllByRecursion IsTextPair (pairs_at b (query_names schema) r.member r.value)
    by r both (to_query name) e =
        let member = member_in_place schema r.position r.member well_made both.1 in
        under_utf8 name (unwrap_or (texts r.member r.value) []) (ap has_utf8 (sym (trait_of r.member (to_query name) e)) ∙ member.texts.query) (texts_utf8 r.member r.value both.0.in_range)
    by r both to_query_map e = entries_utf8 (filter (has_key_outside (query_names schema)) (map_entries r.value)) (all_filter IsEntryInRange (has_key_outside (query_names schema)) (map_entries r.value) (map_in_range r.value both.0.in_range))
    by r both _ e = tt

pub pairs_are_bytes : (schema : Schema) (ws : List Write) → is_well_made schema ≡ true → writes_fault schema [] ws ≡ None → are_in_range ws ≡ true → AllByRecursion IsBytePair (pairs schema ws)
pairs_are_bytes schema ws well_made conforming range =
    all_apply IsTextPair IsBytePair (pairs schema ws) (λ p utf8. (AreBytes-from_utf8 p.0 utf8.0, AreBytes-from_utf8 p.1 utf8.1)) (pairs_are_utf8 schema ws well_made conforming range)
