-- A typed input in normal form, written whole, has a document that is as deep as the input, and is read back as it: the part of
-- each member, bound or not, follows its node and is its own normal form there.
use Rattle.smithy_unambiguity.proofs.Common.{entry_texts, kind_or_none, map_entries, query_names, is_codec_kind, is_payload, IsCheckedInput, has_bound_kind, has_element, is_header_kind, is_plain_list, is_plain_string, is_query_map, element_fault, entry_fault, is_placed_at, item_fault, nested_fault, part_fault, wrong_item_kind, bound_view_at, has_pairs, view, last_of, member_view, own_entries, unless_empty, with_own_elements, OmitFlags, Protocol, IsTyped, is_codec_payload, Ascends, Pairs, all_ascend, all_put, known_by_names, last_ascending, look_ordered, is_scalar, same_kind, ShapeType, Binding, Schema, binding_of, element_of, is_bound, is_outside_body, key_of, member_at, members_of, to_body, to_header, to_label, to_payload, to_prefix, to_query, to_query_map, value_of, is_well_made, document_of, fits, is_null, is_sound, entry_writes, field_of, in_key_order, map_value, own_label, settled, are_writes_in_range, is_in_range, are_entries_shaped, are_shaped, fits_at, is_kind, is_shaped, no_label, Label, Value, Write, Writes, list_of, no_writes, text_of_key, write, writes_of, Resolved, all_resolved, Document, nesting, unless, Bool, List, None, Ok, Option, Some, [], ap, arith, false, if◌then◌else◌, inl, inr, is_none, is_some, not, option_and_then, option_map, refl, subst, sym, true, ℕ, ⊎_elim, ◌&&◌, ◌||◌, ◌∙◌, ◌∷◌, ◌≡◌, ◌⊎◌, and_from, and_parts, or_cases, AllByRecursion, enumerate_from, option_map_or}
use Rattle.smithy_ids.specs.declared.shape_type.ShapeType.TheVariants as kind
use Rattle.smithy_serde.specs.Held as held
use Rattle.smithy_serde.specs.HeldReads.{fields}
use Rattle.smithy_serde.specs.ValueRead.{write_by}
use Rattle.smithy_serde.specs.Values as value
use Rattle.smithy_serde.specs.Values.{list, structure}
use Rattle.smithy_document.proofs.NormalDocuments.{normal_document}
use Rattle.smithy_document.proofs.ShapedDocuments.{has_document}
use Rattle.smithy_document.proofs.ShapedReads.{reads_normal_structure}
use Rattle.smithy_unambiguity.proofs.BodyObject.{IsBodied, body_node, body_node_stands, bodied_writes, body_fields, body_follows, fields_placed, free_view, free_member_view, free_view_shaped, typed_bodied}
use Rattle.smithy_unambiguity.proofs.ByMember.{at_member, first_value}
use Rattle.smithy_unambiguity.proofs.Conforming.{no_first}
use Rattle.smithy_unambiguity.proofs.EntriesTold.{as_text, is_text_node, key_texts, own_value, own_query_entries, own_text_entries, passed, query_entries, query_texts, string_kind}
use Rattle.smithy_unambiguity.proofs.Fits.{is_flat}
use Rattle.smithy_unambiguity.proofs.Headers.{map_pairs}
use Rattle.smithy_unambiguity.proofs.HeadersTold.{header_kinds, typed_writes}
use Rattle.smithy_unambiguity.proofs.LastTexts.{lowered}
use Rattle.smithy_unambiguity.proofs.Lists.{all_apply, both_hold, by_positions}
use Rattle.smithy_unambiguity.proofs.MapsTold.{prefix_map_view, query_map_at, query_map_view, text_map_at}
use Rattle.smithy_unambiguity.proofs.MemberTexts.{IsListOf, bound_list, list_form, list_of_element}
use Rattle.smithy_unambiguity.proofs.PairLemmas.{filter_ascends, ordered_ascends, ordered_valued, valued}
use Rattle.smithy_unambiguity.proofs.PayloadTold.{data_kind, payload_is_data}
use Rattle.smithy_unambiguity.proofs.Placed.{IsPlacedValue, bound_fits, bound_view_of, kinds_at, placed_value}
use Rattle.smithy_unambiguity.proofs.Positions.{members_placed, own_names, sound_input}
use Rattle.smithy_unambiguity.proofs.Sound.{sound}
use Rattle.smithy_unambiguity.proofs.TargetTold.{label_kind, query_kinds}
use Rattle.smithy_unambiguity.proofs.Traits.{trait_of}
use Rattle.smithy_unambiguity.proofs.Values.{AreItems, flat_settled, flat_value, is_flat_value, items_fit}
use Rattle.smithy_unambiguity.proofs.ViewBody.{all_of_view}
use Rattle.smithy_unambiguity.proofs.ViewTyped.{IsViewed}
use Rattle.smithy_unambiguity.proofs.ViewValues.{entries_back, own_texts}
use Rattle.smithy_unambiguity.proofs.ViewWrites.{first_value_of_view, last_of_view}
use Rattle.smithy_unambiguity.proofs.Viewed.{has_viewed}
use Rattle.smithy_unambiguity.proofs.ViewedMembers.{some_left}
use Rattle.smithy_recovery.specs.BodyParts.{held_writes, structure_writes, writes_inside}
use Rattle.smithy_recovery.specs.Shallow.{value_nesting}
use Rattle.smithy_recovery.proofs.Depths.{document_within, settled_within}
use Rattle.smithy_recovery.proofs.Joining.{list_of-writes_of}
use Rattle.smithy_recovery.proofs.MembersKept.{query_map_nodes}

record IsOwn (m : Schema) (u : Value) : Type 0 where
  shaped : is_shaped (Some m) u ≡ true
  settles : settled (Some m) u ≡ u

-- Scalars, and lists of them.

flat_shaped : (s : Schema) (v : Value) → is_flat s.node.kind ≡ true → fits_at (Some s) v ≡ true → (is_flat_value v ≡ true) × (is_shaped (Some s) v ≡ true)
flat_shaped s v flat fit = let is = flat_value s.node.kind v flat (and_parts (is_in_range v) (fits s.node.kind v) fit).1 in (is, go v is fit)
  where
    go : (u : Value) → is_flat_value u ≡ true → fits_at (Some s) u ≡ true → is_shaped (Some s) u ≡ true
    go (value.scalar (value.document d)) none e = absurd (cc none)
    go (value.scalar value.null) none e = absurd (cc none)
    go (list ws) none e = absurd (cc none)
    go (value.map ws) none e = absurd (cc none)
    go (structure ws) none e = absurd (cc none)
    go _ there e = e

items_shaped : (e : Schema) (ws : Writes) → is_flat e.node.kind ≡ true → AreItems e.node.kind ws → are_shaped (Some e) ws ≡ true
items_shaped e no_writes flat items = refl
items_shaped e (write l v ws) flat items = let here = (flat_shaped e v flat items.0).1 in let rest = items_shaped e ws flat items.1 in λ i. here i && rest i

list_shaped : (s e : Schema) (ws : Writes) → element_of s ≡ Some e → is_flat e.node.kind ≡ true → AreItems e.node.kind ws → fits_at (Some s) (list ws) ≡ true → is_shaped (Some s) (list ws) ≡ true
list_shaped s e ws is flat items fit = let node = ap is_some is in let each = ap (λ o. are_shaped o ws) is ∙ items_shaped e ws flat items in λ i. fit i && node i && each i

-- Maps of texts, or of lists of texts.

text_list : (s : Schema) → is_plain_list (Some s) ≡ true → IsListOf is_flat s
text_list s plain =
    let parts = and_parts (same_kind s.node.kind kind.List && is_none s.node.traits.media_type) (is_plain_string (element_of s)) plain in
    let is_list = (and_parts (same_kind s.node.kind kind.List) (is_none s.node.traits.media_type) parts.0).0 in
    list_of_element is_flat s (and_from (same_kind s.node.kind kind.List) _ is_list (flat (element_of s) parts.1))
  where
    flat : (o : Option Schema) → is_plain_string o ≡ true → option_map_or (λ (e : Schema). is_flat e.node.kind) o false ≡ true
    flat None text = absurd (cc text)
    flat (Some e) text = ap is_flat (string_kind (Some e) text)

part_shaped : (m : Schema) (here : Option Schema) (v : Value) → is_text_node here ≡ true → part_fault m here v ≡ None → is_in_range v ≡ true → is_shaped here v ≡ true
part_shaped m None v node fault range = absurd (cc node)
part_shaped m (Some s) v node fault range =
    let faults = no_first (unless (fits s.node.kind v) (wrong_item_kind m s.node.kind v)) (nested_fault m (Some s) v) fault in
    let taken = passed (fits s.node.kind v) (wrong_item_kind m s.node.kind v) faults.0 in
    let fit : fits_at (Some s) v ≡ true = λ i. range i && taken i in
    ⊎_elim (λ text. (flat_shaped s v (ap is_flat (string_kind (Some s) text)) fit).1)
    (λ texts.
    let l = text_list s texts in
    let x = list_form v (ap (λ k. fits k v) (sym l.kind) ∙ taken) in
    let none = ap (λ o. element_fault m (kind_or_none o) x.0) (sym l.is) ∙ ap (nested_fault m (Some s)) (sym x.1) ∙ faults.1 in
    let items = items_fit m l.element.node.kind x.0 none (ap is_in_range (sym x.1) ∙ range) in
    ap (is_shaped (Some s)) x.1 ∙ list_shaped s l.element x.0 l.is l.passes items (ap (fits_at (Some s)) (sym x.1) ∙ fit))
    (or_cases (is_plain_string (Some s)) (is_plain_list (Some s)) node)

entries_shaped : (m : Schema) (k l : Label) (es : Pairs Value) → is_text_node (value_of m) ≡ true → entry_fault m (key_of m) (value_of m) (entry_writes k l es) ≡ None → are_writes_in_range (entry_writes k l es) ≡ true
    → are_entries_shaped (value_of m) (entry_writes k l es) ≡ true
entries_shaped m k l [] node fault range = refl
entries_shaped m k l (e ∷ es) node fault range =
    let rest = entry_writes k l es in
    let a = no_first (part_fault m (key_of m) (as_text e.0)) (entry_fault m (value_of m) (key_of m) (write l e.1 rest)) fault in
    let b = no_first (part_fault m (value_of m) e.1) (entry_fault m (key_of m) (value_of m) rest) a.1 in
    let c = and_parts (is_in_range (as_text e.0)) (is_in_range e.1 && are_writes_in_range rest) range in
    let d = and_parts (is_in_range e.1) (are_writes_in_range rest) c.1 in
    let part = part_shaped m (value_of m) e.1 node b.0 d.0 in
    let more = entries_shaped m k l es node b.1 d.1 in
    λ i. (c.0 i && true) && (part i && more i)

as_they_stand : (es : Pairs Value) → Ascends es → in_key_order es ≡ es
as_they_stand es up = known_by_names (in_key_order es) es (all_ascend es [] tt) up (λ name. look_ordered name es ∙ last_ascending name es up)

text_node : (here : Option Schema) → is_plain_string here ≡ true → is_kind kind.String here ≡ true
text_node None plain = absurd (cc plain)
text_node (Some s) plain = (and_parts (same_kind s.node.kind kind.String) (is_none s.node.traits.media_type) plain).0

-- the map of these entries, of which each value is made of what it gives
map_part : {X : Type 0} (m : Schema) (u : Value) (own : X → Value) (gives : Value → X) → ((x : X) → gives (own x) ≡ x) → (qs : Pairs X) → is_query_map m ≡ true → map_value (Some m) (valued own qs) ≡ u → IsPlacedValue m u
    → ((v : Value) → item_fault m v ≡ None → own_entries m v ≡ valued own (valued gives (map_entries v))) → Ascends (valued own qs) → IsOwn m u
map_part m u own gives back qs sound made there entries up =
    let k = own_label (key_of m) no_label in
    let l = own_label (value_of m) no_label in
    let is = subst (IsPlacedValue m) (sym made) there in
    let kinds = and_parts (same_kind m.node.kind kind.Map && is_plain_string (key_of m)) (is_text_node (value_of m)) sound in
    let texts = text_node (key_of m) (and_parts (same_kind m.node.kind kind.Map) (is_plain_string (key_of m)) kinds.0).1 in
    let node = (and_parts (is_some (key_of m)) (is_some (value_of m)) (query_map_nodes m sound)).1 in
    let shaped = entries_shaped m k l (valued own qs) kinds.1 is.value.items is.value.in_range in
    let same = entries (map_value (Some m) (valued own qs)) is.value.items ∙ ap (valued own) (entries_back k l own gives back qs) in
    subst (IsOwn m) made (record {
      shaped = λ i. (is.value.in_range i && is.value.fits i) && texts i && node i && is.keys i && shaped i;
      settles = ap (λ es. map_value (Some m) (in_key_order es)) same ∙ ap (map_value (Some m)) (as_they_stand (valued own qs) up);
    })

-- its document is one that a codec tells apart, up to the limit of nesting
pub record HasWholeDocument (schema : Schema) (ws : List Write) : Type 0 where
  pub doc : Document
  pub has : document_of (structure (writes_of ws)) ≡ Ok doc
  pub sound : is_sound doc ≡ true
  pub depth : value_nesting (structure (writes_of ws)) ≡ nesting doc
  pub back : held_writes schema (held.document doc) ≡ Some ws

module _ (protocol : Protocol) (schema : Schema) (endpoint : List ℕ) (omit : OmitFlags) (ws : List Write) (checked : IsCheckedInput schema) (well_made : is_well_made schema ≡ true) (typed : IsTyped protocol schema endpoint omit ws) (normal : view schema ws ≡ ws) where
  -- Each member.

  module _ (i : ℕ) (m : Schema) (u : Value) (at : member_at schema i ≡ Some m) (has : member_view schema ws i m ≡ Some u) where
    first : first_value schema ws i ≡ Some u
    first = ap (λ us. first_value schema us i) (sym normal) ∙ first_value_of_view schema ws i m checked well_made at ∙ has

    -- a part that is bound so is left as it is
    stays : (b : Binding) → binding_of m ≡ b → is_outside_body b ≡ true → bound_view_at b (query_names schema) m u ≡ Some u
    stays b is outside = sym (ap (option_and_then (bound_view_at b (query_names schema) m)) first) ∙ sym (bound_view_of schema ws i m b at is outside) ∙ has

    placed : is_placed_at (binding_of m) ≡ true → IsPlacedValue m u
    placed there = placed_value schema ws i m u (typed_writes protocol schema endpoint omit ws typed) at there first

    kinds : has_bound_kind m ≡ true
    kinds = kinds_at schema checked i m at

    viewed : IsViewed m u
    viewed = has_viewed protocol schema endpoint omit ws checked well_made typed i m u at has

    free_part : is_bound m ≡ false → IsOwn m u
    free_part free =
        let last = ap (λ us. last_of i (all_resolved schema us)) (sym normal) ∙ last_of_view schema ws i m checked well_made at ∙ ap (option_map (at_member i m)) has in
        let both : Some u ≡ Some (settled (Some m) u) = sym has ∙ free_member_view schema ws i m free ∙ (λ j. if free j then None else option_map (λ (r : Resolved). settled (Some m) r.value) (last j)) in
        let own : u ≡ settled (Some m) u = cc both in
        record { shaped = free_view_shaped schema ws i m u checked well_made (typed_bodied protocol schema endpoint omit ws typed) at free has; settles = sym own }

    scalar_part : is_bound m ≡ true → is_flat m.node.kind ≡ true → IsOwn m u
    scalar_part bound flat =
        let fit = bound_fits (fits m.node.kind u) (is_null u) (is_bound m) bound viewed.fits in
        let is = flat_shaped m u flat (λ j. viewed.in_range j && fit j) in
        record { shaped = is.1; settles = flat_settled (Some m) u is.0 }

    -- a scalar, or a list of scalars with its own elements
    scalars_part : (test : ShapeType → Bool) → ((k : ShapeType) → test k ≡ true → is_flat k ≡ true) → is_placed_at (binding_of m) ≡ true → is_bound m ≡ true → (test m.node.kind || has_element test m) ≡ true
        → (same_kind m.node.kind kind.List ≡ true → with_own_elements m u ≡ u) → IsOwn m u
    scalars_part test flat there bound either own =
        ⊎_elim (λ scalar. scalar_part bound (flat m.node.kind scalar))
        (λ listed.
        let l = list_of_element test m listed in
        let is = (placed there).value in
        let b = bound_list test m l u is in
        let shaped = list_shaped m l.element b.ws l.is (flat l.element.node.kind l.passes) b.items (ap (fits_at (Some m)) (sym b.is) ∙ (λ j. is.in_range j && is.fits j)) in
        record { shaped = ap (is_shaped (Some m)) b.is ∙ shaped; settles = ap (settled (Some m)) b.is ∙ ap (with_own_elements m) (sym b.is) ∙ own (ap (λ k. same_kind k kind.List) l.kind) })
        (or_cases (test m.node.kind) (has_element test m) either)

    payload_part : binding_of m ≡ to_payload → IsOwn m u
    payload_part payload = go (data_kind m.node.kind (payload_is_data schema (sound_input schema checked) i m at payload))
      where
        go : (m.node.kind ≡ kind.Blob) ⊎ ((m.node.kind ≡ kind.String) ⊎ (is_codec_kind m.node.kind ≡ true)) → IsOwn m u
        go (inl blob) = scalar_part (ap is_outside_body payload) (ap is_flat blob)
        go (inr (inl string)) = scalar_part (ap is_outside_body payload) (ap is_flat string)
        go (inr (inr codec)) =
            let gives : Some (settled (Some m) u) ≡ Some u = sym (ap (λ t. if t then Some (settled (Some m) u) else unless_empty u) codec) ∙ stays to_payload payload refl in
            let is : is_codec_payload m ≡ true = ap (λ b. is_payload b && is_codec_kind m.node.kind) payload ∙ codec in
            record { shaped = ap (λ t. not t || is_shaped (Some m) u) (sym is) ∙ viewed.codec; settles = cc gives }

    prefix_part : (prefix : List ℕ) → binding_of m ≡ to_prefix prefix → IsOwn m u
    prefix_part prefix begins =
        let sound = text_map_at schema checked i m prefix at begins in
        let texts = and_parts (same_kind m.node.kind kind.Map && is_plain_string (key_of m)) (is_plain_string (value_of m)) sound in
        let is = placed (ap is_placed_at begins) in
        let ps = lowered (map_pairs u) in
        map_part m u as_text text_of_key (λ t. refl) (all_put ps []) (λ j. texts.0 j && (texts.1 j || is_plain_list (value_of m)))
        (some_left (map_value (Some m) (valued as_text (all_put ps []))) u (sym (prefix_map_view m (query_names schema) prefix u sound is) ∙ stays (to_prefix prefix) begins refl)) is
        (λ v. own_text_entries m v texts.1) (subst Ascends (ordered_valued as_text ps) (ordered_ascends (valued as_text ps)))

    query_map_part : binding_of m ≡ to_query_map → IsOwn m u
    query_map_part query_map =
        let sound = query_map_at schema checked i m at query_map in
        let texts = and_parts (same_kind m.node.kind kind.Map && is_plain_string (key_of m)) (is_text_node (value_of m)) sound in
        let own = own_value (value_of m) in
        let is = placed (ap is_placed_at query_map) in
        let names = query_names schema in
        map_part m u own entry_texts (own_texts (value_of m)) (query_texts names (key_texts u)) sound
        (some_left (map_value (Some m) (valued own (query_texts names (key_texts u)))) u (sym (query_map_view m names u sound is) ∙ stays to_query_map query_map refl)) is
        (λ v. own_query_entries m v texts.1)
        (subst Ascends (query_entries (value_of m) names (key_texts u)) (filter_ascends (has_pairs names) (in_key_order (valued own (key_texts u))) (ordered_ascends (valued own (key_texts u)))))

    part_own : IsOwn m u
    part_own = go (binding_of m) refl
      where
        go : (b : Binding) → binding_of m ≡ b → IsOwn m u
        go (to_header name) is =
            scalars_part is_header_kind (λ k e. e) (ap is_placed_at is) (ap is_outside_body is) (header_kinds m name (trait_of m (to_header name) is) kinds)
            (λ listed. let own : Some (with_own_elements m u) ≡ Some u = stays (to_header name) is refl in cc own)
        go (to_query name) is =
            scalars_part is_scalar (λ k e. ap (λ t. t || same_kind k kind.Blob) e) (ap is_placed_at is) (ap is_outside_body is) (query_kinds m name (trait_of m (to_query name) is) kinds)
            (λ listed. some_left (with_own_elements m u) u (sym (ap (λ t. if t then unless_empty (with_own_elements m u) else Some u) listed) ∙ stays (to_query name) is refl))
        go (to_prefix prefix) is = prefix_part prefix is
        go to_query_map is = query_map_part is
        go to_label is = scalar_part (ap is_outside_body is) (label_kind m (trait_of m to_label is) kinds)
        go to_payload is = payload_part is
        go to_body is = free_part (ap is_outside_body is)

  -- The whole: where nothing is bound, the body has all members.

  abbrev nothing_bound : Schema → Bool
  nothing_bound m = false

  abbrev rs : List Resolved
  rs = all_resolved schema (view schema ws)

  bodied : AllByRecursion (IsBodied nothing_bound schema) rs
  bodied = all_of_view (IsBodied nothing_bound schema) schema ws checked well_made (λ i m u at has. record { at = at; shaped = λ free. (part_own i m u at has).shaped })

  -- the structure has of each member its part
  own_last : (p : ℕ × Schema) → member_at schema p.0 ≡ Some p.1 → free_view nothing_bound p.0 p.1 rs ≡ member_view schema ws p.0 p.1
  own_last p at = ap (option_map (λ (r : Resolved). settled (Some p.1) r.value)) (last_of_view schema ws p.0 p.1 checked well_made at) ∙ go (member_view schema ws p.0 p.1) refl
    where
      go : (o : Option Value) → member_view schema ws p.0 p.1 ≡ o → option_map (λ (r : Resolved). settled (Some p.1) r.value) (option_map (at_member p.0 p.1) o) ≡ o
      go None e = refl
      go (Some u) e = ap Some (part_own p.0 p.1 u at e).settles

  settles : settled (Some (body_node schema)) (structure (bodied_writes nothing_bound rs)) ≡ structure (writes_of ws)
  unfolding view
  settles =
      ap (λ us. structure (writes_of us))
      (by_positions (field_of (body_fields nothing_bound schema rs)) (λ p. option_map (write_by p.1) (member_view schema ws p.0 p.1)) 0 (members_of schema)
      (all_apply (λ p. Placed p × (member_at schema p.0 ≡ Some p.1)) (λ p. field_of (body_fields nothing_bound schema rs) p.1 ≡ option_map (write_by p.1) (member_view schema ws p.0 p.1)) (enumerate_from 0 (members_of schema))
      (λ p both. both.0 ∙ ap (option_map (write_by p.1)) (own_last p both.1))
      (both_hold Placed (λ p. member_at schema p.0 ≡ Some p.1) (enumerate_from 0 (members_of schema)) (fields_placed nothing_bound schema (own_names schema checked) well_made rs bodied) (members_placed schema checked)))
      ∙ normal)
    where
      Placed : ℕ × Schema → Type 0
      Placed p = field_of (body_fields nothing_bound schema rs) p.1 ≡ option_map (write_by p.1) (free_view nothing_bound p.0 p.1 rs)

  pub whole_document : HasWholeDocument schema ws
  unfolding fields
  whole_document =
      let node = body_node schema in
      let us : Writes = bodied_writes nothing_bound rs in
      let stands = body_node_stands schema well_made in
      let shaped = body_follows nothing_bound schema (own_names schema checked) well_made rs bodied in
      let d = has_document node (structure us) shaped in
      let has = sym (ap document_of settles) ∙ normal_document node (structure us) d.0 shaped d.1 in
      let low = settled_within node (structure us) d.0 shaped d.1 in
      let same = ap value_nesting settles in
      let high = document_within (structure (writes_of ws)) d.0 has in
      record {
        doc = d.0;
        has = has;
        sound = sound node (structure us) d.0 stands shaped d.1;
        depth = omega (arith, low, same, high);
        back = ap structure_writes (reads_normal_structure node us d.0 stands shaped d.1) ∙ ap (λ v. Some (list_of (writes_inside v))) settles ∙ ap Some (list_of-writes_of ws);
      }
