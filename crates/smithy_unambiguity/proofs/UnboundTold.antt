-- The body of unbound members tells the normal form of each.
use Rattle.smithy_unambiguity.proofs.Common.{◌≡◌, refl, sym, ◌∙◌, ap, ℕ, true, false, not, ◌||◌, List, Option, Some, None, and_parts, ShapeType, Schema, member_at, members_of as nodes_of, to_body, binding_of, is_outside_body, is_bound, is_well_made, Value, Write, all_resolved, payload_kind, has_unbound_member, is_raw_kind, is_codec_kind, form_at, form_in, body_parts, body, text_of_document, bytes_by, IsCheckedInput, has_at_most_one, is_sound_payload, Protocol, OmitFlags, IsTyped, member_view}
use Rattle.smithy_serde.specs.Values as value
use Rattle.smithy_binding.specs.declared.body_form.BodyForm.TheVariants as form
use Rattle.smithy_unambiguity.proofs.BodyObject.{typed_bodied, body_node, body_node_stands, bodied_writes, body_follows, body_field, body_fields_told, free_member_view}
use Rattle.smithy_unambiguity.proofs.HeadersTold.{AreSeenSame}
use Rattle.smithy_unambiguity.proofs.Members.{member_in_place}
use Rattle.smithy_unambiguity.proofs.PayloadTold.{HasOwnText, text_tells, own_text, document_value_is, body_bytes}
use Rattle.smithy_unambiguity.proofs.Positions.{IsSoundMessage, own_names, sound_input}
use Rattle.smithy_unambiguity.proofs.Lists.{any_get}

-- a member in the body is not bound
free_member : (m : Schema) → binding_of m ≡ to_body → is_bound m ≡ false
free_member m e = ap is_outside_body e

-- with an unbound member there is no payload, and the unbound members are the body
pub unbound_form : (schema : Schema) → IsSoundMessage schema → has_unbound_member schema ≡ true → form_in schema ≡ form.Unbound
unbound_form schema message some = (λ k. form_at (none k) (some k))
  where
    tests : is_sound_payload (payload_kind schema) (has_unbound_member schema) ≡ true
    tests = (and_parts (has_at_most_one (λ t. t.http_payload) schema) (is_sound_payload (payload_kind schema) (has_unbound_member schema)) message.payload).1

    none : payload_kind schema ≡ None
    none = go (payload_kind schema) (ap (is_sound_payload (payload_kind schema)) (sym some) ∙ tests)
      where
        go : (o : Option ShapeType) → is_sound_payload o true ≡ true → o ≡ None
        go None e = refl
        go (Some k) e = let q = (and_parts (is_raw_kind k || is_codec_kind k) false e).1 in absurd (cc q)

pub unbound_form_is : (schema : Schema) → IsSoundMessage schema → (i : ℕ) (m : Schema) → member_at schema i ≡ Some m → is_bound m ≡ false → form_in schema ≡ form.Unbound
unbound_form_is schema message i m at free = unbound_form schema message (any_get (λ n. not (is_bound n)) (nodes_of schema) i m (message.by_position i ∙ at) (ap not free))

-- The body is the text of the structure's document.

abbrev pub body_value : Schema → List Write → Value
body_value schema ws = value.structure (bodied_writes is_bound (all_resolved schema ws))

pub unbound_own_text : (protocol : Protocol) (schema : Schema) (endpoint : List ℕ) (omit : OmitFlags) (ws : List Write) → IsCheckedInput schema → is_well_made schema ≡ true → IsTyped protocol schema endpoint omit ws → form_in schema ≡ form.Unbound
    → HasOwnText (body_node schema) (body_value schema ws)
unbound_own_text protocol schema endpoint omit ws checked well_made typed is =
    own_text schema ws (body_node schema) (body_value schema ws) typed.shallow (body_node_stands schema well_made) (document_value_is schema ws form.Unbound is)
    (body_follows is_bound schema (own_names schema checked) well_made (all_resolved schema ws) (typed_bodied protocol schema endpoint omit ws typed))

pub unbound_member_told : (protocol : Protocol) (schema : Schema) (endpoint : List ℕ) (omit : OmitFlags) (v w : List Write) → AreSeenSame protocol schema endpoint omit v w → (i : ℕ) (m : Schema)
    → member_at schema i ≡ Some m → binding_of m ≡ to_body → member_view schema v i m ≡ member_view schema w i m
unbound_member_told protocol schema endpoint omit v w are i m at in_body =
    let free = free_member m in_body in
    let is = unbound_form_is schema (sound_input schema are.checked) i m at free in
    let member = member_in_place schema i m are.setting.well_made at in
    let a = unbound_own_text protocol schema endpoint omit v are.checked are.setting.well_made are.typed_v is in
    let b = unbound_own_text protocol schema endpoint omit w are.checked are.setting.well_made are.typed_w is in
    let texts = sym (bytes v is) ∙ are.seen.body ∙ bytes w is in
    let same = text_tells protocol.text_of are.setting.holds are.setting.lawful (body_node schema) (body_value schema v) (body_value schema w) (body_node_stands schema are.setting.well_made) a b texts in
    free_member_view schema v i m free
    ∙ sym (body_field is_bound schema (own_names schema are.checked) are.setting.well_made i m member.own_name at member.name (all_resolved schema v) (typed_bodied protocol schema endpoint omit v are.typed_v))
    ∙ body_fields_told schema (own_names schema are.checked) i m member.own_name at member.name (all_resolved schema v) (all_resolved schema w) same
    ∙ body_field is_bound schema (own_names schema are.checked) are.setting.well_made i m member.own_name at member.name (all_resolved schema w) (typed_bodied protocol schema endpoint omit w are.typed_w)
    ∙ sym (free_member_view schema w i m free)
  where
    bytes : (ws : List Write) → form_in schema ≡ form.Unbound → (body protocol.text_of schema ws).bytes ≡ text_of_document protocol.text_of (Some (body_value schema ws))
    bytes ws is = body_bytes protocol.text_of schema ws ∙ ap (λ f. bytes_by f protocol.text_of (body_parts schema ws)) is
