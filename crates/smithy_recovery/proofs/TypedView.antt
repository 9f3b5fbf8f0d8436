-- Each write of a typed input's normal form passes its test.
use Rattle.std.proofs.Common.{◌≡◌, refl, sym, ◌∙◌, ap, ℕ, ◌-◌, ◌≤◌, arith, Bool, true, false, not, ◌&&◌, ◌||◌, List, Option, Some, option_and_then, if◌then◌else◌}
use Rattle.std.specs.List.{list_all}
use Rattle.std.specs.Option.{option_map_or}
use Rattle.std.proofs.lemmas.Bool.{and_parts, and_from, le-leb}
use Rattle.smithy_types.specs.Maps.{last_named}
use Rattle.smithy_types.specs.Texts.{are_distinct, is_one_of}
use Rattle.smithy_schema.specs.Nodes.{Schema, member_at, Binding, to_header, to_prefix, to_query, to_query_map, to_label, to_payload, to_body, binding_of, is_outside_body, is_bound}
use Rattle.smithy_schema.specs.WellMade.{is_well_made}
use Rattle.smithy_serde.specs.Lawful.{max_nesting}
use Rattle.smithy_serde.specs.NormalBody.{settled}
use Rattle.smithy_serde.specs.Ranges.{is_in_range}
use Rattle.smithy_serde.specs.Shaped.{is_shaped}
use Rattle.smithy_serde.specs.Values as value
use Rattle.smithy_serde.specs.Values.{Value, Write, label_of, keys_of}
use Rattle.smithy_serde.specs.Writes.{all_resolved}
use Rattle.smithy_binding.specs.Bindings.{inserted_at}
use Rattle.smithy_binding.specs.Bodies.{is_payload, is_codec_kind, has_unbound_member}
use Rattle.smithy_binding.specs.Checked.{IsCheckedInput}
use Rattle.smithy_binding.specs.Faults.{is_placed_at}
use Rattle.smithy_binding.specs.NormalForm.{view, member_view, unless_empty}
use Rattle.smithy_binding.specs.Placing.{Protocol, OmitFlags}
use Rattle.smithy_binding.specs.Typed.{IsTyped, has_distinct_keys, has_own_formats, default_names, has_no_default_name, is_codec_payload}
use Rattle.smithy_unambiguity.proofs.BodyObject.{typed_bodied, body_node, bodied_writes, body_fields, body_field, free_member_view, free_view_shaped}
use Rattle.smithy_unambiguity.proofs.ByMember.{at_member}
use Rattle.smithy_unambiguity.proofs.Lists.{test_from_all}
use Rattle.smithy_unambiguity.proofs.Members.{member_in_place}
use Rattle.smithy_unambiguity.proofs.PayloadTold.{payload_own_text, payload_form, codec_form}
use Rattle.smithy_unambiguity.proofs.UnboundTold.{unbound_form_is, unbound_own_text}
use Rattle.smithy_unambiguity.proofs.ViewTyped.{IsViewed, writes_of_view}
use Rattle.smithy_unambiguity.proofs.Viewed.{has_viewed}
use Rattle.smithy_unambiguity.proofs.ViewedMembers.{bound_made}
use Rattle.smithy_recovery.specs.Shallow.{value_nesting, is_shallow_at}
use Rattle.smithy_recovery.specs.TypedWrites.{is_typed_document, is_typed_payload, has_sound_parts, is_typed_text, has_no_default, is_typed_at, is_typed_value, is_typed_write, has_typed_writes}
use Rattle.smithy_recovery.proofs.Depths.{settled_within, field_within}
use Rattle.smithy_unambiguity.proofs.Positions.{own_names, sound_input}

-- ---- values in the target and the headers

parts_sound : (m : Schema) (v : Value) → (has_distinct_keys v && has_own_formats m v) ≡ true → has_sound_parts m v ≡ true
parts_sound m (value.map ws) e = (and_parts (are_distinct (keys_of ws)) true e).0
parts_sound m (value.list ws) e = e
parts_sound m _ e = refl

viewed_text : (b : Binding) (m : Schema) (u : Value) → binding_of m ≡ b → is_placed_at b ≡ true → IsViewed m u → is_typed_text m u ≡ true
viewed_text b m u is placed viewed =
    and_from (is_in_range u) (has_sound_parts m u) viewed.in_range
    (parts_sound m u (ap (λ t. not t || (has_distinct_keys u && has_own_formats m u)) (sym (ap is_placed_at is ∙ placed)) ∙ viewed.typed))

viewed_names : (prefix : List ℕ) (m : Schema) (u : Value) → binding_of m ≡ to_prefix prefix → IsViewed m u → has_no_default prefix m u ≡ true
viewed_names prefix m u is viewed =
    sym (ap (λ b. list_all (λ (p : List ℕ × List ℕ). not (is_one_of p.0 default_names)) (inserted_at b m u)) is)
    ∙ sym (ap (λ b. has_no_default_name b (at_member 0 m u)) is) ∙ viewed.unlike

-- ---- values in the body

low_document : (levels : ℕ) (m : Schema) (u : Value) → value_nesting u ≤ levels → is_shaped (Some m) u ≡ true → is_typed_document levels m u ≡ true
low_document levels m u low shaped = and_from (is_shallow_at levels u) (is_shaped (Some m) u) (le-leb (value_nesting u) levels low) shaped

module _ (protocol : Protocol) (schema : Schema) (endpoint : List ℕ) (omit : OmitFlags) (ws : List Write) (checked : IsCheckedInput schema) (well_made : is_well_made schema ≡ true) (typed : IsTyped protocol schema endpoint omit ws) where
  viewed_payload : (i : ℕ) (m : Schema) (u : Value) → member_at schema i ≡ Some m → binding_of m ≡ to_payload → member_view schema ws i m ≡ Some u → IsViewed m u → is_typed_payload m u ≡ true
  viewed_payload i m u at payload e viewed = go (is_codec_kind m.node.kind) refl
    where
      go : (t : Bool) → is_codec_kind m.node.kind ≡ t → (if t then is_typed_document max_nesting m u else is_in_range u) ≡ true
      go false is = viewed.in_range
      go true is =
          let x = bound_made schema ws i m u to_payload at payload refl e in
          let gives : Some (settled (Some m) x.from) ≡ Some u = sym (ap (λ t. if t then Some (settled (Some m) x.from) else unless_empty x.from) is) ∙ x.gives in
          let same : settled (Some m) x.from ≡ u = cc gives in
          let whole = payload_form schema (sound_input schema checked) i m at payload ∙ codec_form m.node.kind (has_unbound_member schema) is in
          let text = payload_own_text protocol schema endpoint omit ws i m checked well_made typed at payload whole x.from x.is in
          let within = settled_within m x.from text.doc text.shaped text.has in
          let shallow = text.shallow in
          let deep = ap value_nesting same in
          let codec : is_codec_payload m ≡ true = ap (λ b. is_payload b && is_codec_kind m.node.kind) payload ∙ is in
          low_document max_nesting m u (omega (arith, within, shallow, deep)) (ap (λ t. not t || is_shaped (Some m) u) (sym codec) ∙ viewed.codec)

  viewed_free : (i : ℕ) (m : Schema) (u : Value) → member_at schema i ≡ Some m → binding_of m ≡ to_body → member_view schema ws i m ≡ Some u → is_typed_document (max_nesting - 1) m u ≡ true
  viewed_free i m u at in_body e =
      let free : is_bound m ≡ false = ap is_outside_body in_body in
      let bodied = typed_bodied protocol schema endpoint omit ws typed in
      let rs = all_resolved schema ws in
      let member = member_in_place schema i m well_made at in
      let has : last_named member.own_name (body_fields is_bound schema rs) ≡ Some u = body_field is_bound schema (own_names schema checked) well_made i m member.own_name at member.name rs bodied ∙ sym (free_member_view schema ws i m free) ∙ e in
      let text = unbound_own_text protocol schema endpoint omit ws checked well_made typed (unbound_form_is schema (sound_input schema checked) i m at free) in
      let within = field_within (body_node schema) (bodied_writes is_bound rs) text.doc member.own_name u text.shaped text.has has in
      let shallow = text.shallow in
      low_document (max_nesting - 1) m u (omega (arith, within, shallow)) (free_view_shaped schema ws i m u checked well_made bodied at free e)

  viewed_value : (i : ℕ) (m : Schema) (u : Value) → member_at schema i ≡ Some m → member_view schema ws i m ≡ Some u → is_typed_value m u ≡ true
  viewed_value i m u at e = go (binding_of m) refl
    where
      viewed : IsViewed m u
      viewed = has_viewed protocol schema endpoint omit ws checked well_made typed i m u at e

      go : (b : Binding) → binding_of m ≡ b → is_typed_at b m u ≡ true
      go (to_header name) is = viewed_text (to_header name) m u is refl viewed
      go (to_prefix prefix) is = and_from (is_typed_text m u) (has_no_default prefix m u) (viewed_text (to_prefix prefix) m u is refl viewed) (viewed_names prefix m u is viewed)
      go (to_query name) is = viewed_text (to_query name) m u is refl viewed
      go to_query_map is = viewed_text to_query_map m u is refl viewed
      go to_label is = viewed_text to_label m u is refl viewed
      go to_payload is = viewed_payload i m u at is e viewed
      go to_body is = viewed_free i m u at is e

  -- a write with the label of its member
  own_write_typed : (i : ℕ) (m : Schema) (u : Value) → member_at schema i ≡ Some m → is_typed_value m u ≡ true → is_typed_write schema (record { label = label_of m; value = u }) ≡ true
  own_write_typed i m u at h =
      ap (λ (o : Option ℕ). option_map_or (λ n. is_typed_value n u) (option_and_then (member_at schema) o) false) (member_in_place schema i m well_made at).index
      ∙ ap (λ (o : Option Schema). option_map_or (λ n. is_typed_value n u) o false) at ∙ h

  pub view_has_typed_writes : has_typed_writes schema (view schema ws) ≡ true
  view_has_typed_writes =
      test_from_all (is_typed_write schema) (view schema ws)
      (writes_of_view (λ w. is_typed_write schema w ≡ true) schema ws checked (λ i m u at e. own_write_typed i m u at (viewed_value i m u at e)))
