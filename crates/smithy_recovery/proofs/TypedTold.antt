-- The codec's reader tells what it has of the body of a typed input.
use Rattle.std.proofs.Common.{◌≡◌, ◌≢◌, refl, sym, ◌∙◌, ap, ℕ, suc, slice_get, Bool, true, false, not, ◌||◌, List, [], ◌∷◌, Option, Some, None, is_some}
use Rattle.std.specs.List.{list_any}
use Rattle.smithy_ids.specs.declared.shape_type.ShapeType.{ShapeType}
use Rattle.smithy_schema.specs.Nodes.{Schema, member_at, members_of, Binding, to_payload, to_body, binding_of, is_outside_body}
use Rattle.smithy_schema.specs.WellMade.{is_well_made}
use Rattle.smithy_serde.specs.Lawful.{IsLawfulText}
use Rattle.smithy_serde.specs.Values.{Value, Write}
use Rattle.smithy_binding.specs.Bodies.{is_raw_kind, is_codec_kind, has_unbound_member, form_in, body_parts, body, text_of_document, bytes_by}
use Rattle.smithy_binding.specs.declared.body_form.BodyForm.TheVariants as form
use Rattle.smithy_binding.specs.Checked.{IsCheckedInput}
use Rattle.smithy_binding.specs.Placing.{OmitFlags}
use Rattle.smithy_binding.specs.Typed.{IsTyped}
use Rattle.smithy_http.specs.Requests.{Request}
use Rattle.smithy_unambiguity.proofs.BodyObject.{body_node}
use Rattle.smithy_unambiguity.proofs.ByMember.{first_value}
use Rattle.smithy_unambiguity.proofs.PayloadTold.{HasOwnText, own_bytes, codec_form, payload_form, payload_is_data, payload_value, payload_own_text, body_bytes}
use Rattle.smithy_unambiguity.proofs.Positions.{members_by_position, sound_input}
use Rattle.smithy_unambiguity.proofs.UnboundTold.{body_value, unbound_form_is, unbound_own_text}
use Rattle.smithy_recovery.specs.BodyParts.{is_asked_at, is_asked, reads_body, is_told}
use Rattle.smithy_recovery.specs.Recovered.{Reading, is_body_told}

-- some member passes
any_at : (test : Schema → Bool) (ms : List Schema) → list_any test ms ≡ true → (j : ℕ) × (m : Schema) × (slice_get ms j ≡ Some m) × (test m ≡ true)
any_at test [] e = absurd (cc e)
any_at test (m ∷ ms) e = go (test m) refl e (any_at test ms)
  where
    go : (t : Bool) → test m ≡ t → (t || list_any test ms) ≡ true → (list_any test ms ≡ true → (j : ℕ) × (n : Schema) × (slice_get ms j ≡ Some n) × (test n ≡ true))
        → (j : ℕ) × (n : Schema) × (slice_get (m ∷ ms) j ≡ Some n) × (test n ≡ true)
    go true is h later = (0, m, refl, is)
    go false is h later = let rest = later h in (suc rest.0, rest.1, rest.2, rest.3)

-- a lawful reader tells what it has of the text of a value that follows its node
own_told : (r : Reading) → IsLawfulText r.protocol.text_of r.holds → (m : Schema) (v : Value) (bytes : List ℕ) → HasOwnText m v → text_of_document r.protocol.text_of (Some v) ≡ bytes → is_some (r.holds bytes) ≡ true
own_told r lawful m v bytes own e = ap (λ b. is_some (r.holds b)) (sym e ∙ own_bytes r.protocol.text_of m v own) ∙ ap is_some (lawful.reads_back own.doc own.sound own.shallow)

-- a payload that the reader is asked of has a body, and is not of a raw kind
asked_payload : (k : ShapeType) (body : List ℕ) → is_asked_at to_payload k body ≡ true → (body ≢ []) × (is_raw_kind k ≡ false)
asked_payload k [] e = absurd (cc e)
asked_payload k (b ∷ body) e = (λ h. cc h, go (is_raw_kind k) e)
  where
    go : (t : Bool) → not t ≡ true → t ≡ false
    go true h = absurd (cc h)
    go false h = refl

codec_kind : (r c : Bool) → (r || c) ≡ true → r ≡ false → c ≡ true
codec_kind true c taken raw = absurd (cc raw)
codec_kind false c taken raw = taken

pub typed_is_told : (r : Reading) (omit : OmitFlags) (q : Request) (ws : List Write) → IsLawfulText r.protocol.text_of r.holds → IsCheckedInput r.schema → is_well_made r.schema ≡ true → IsTyped r.protocol r.schema r.endpoint omit ws
    → (body r.protocol.text_of r.schema ws).bytes ≡ q.body → is_body_told r q ≡ true
typed_is_told r omit q ws lawful checked well_made typed same = go (reads_body r.schema q.body) refl
  where
    unbound : (i : ℕ) (m : Schema) → member_at r.schema i ≡ Some m → binding_of m ≡ to_body → is_some (r.holds q.body) ≡ true
    unbound i m at e =
        let is = unbound_form_is r.schema (sound_input r.schema checked) i m at (ap is_outside_body e) in
        own_told r lawful (body_node r.schema) (body_value r.schema ws) q.body (unbound_own_text r.protocol r.schema r.endpoint omit ws checked well_made typed is)
        (sym (ap (λ f. bytes_by f r.protocol.text_of (body_parts r.schema ws)) is) ∙ sym (body_bytes r.protocol.text_of r.schema ws) ∙ same)

    payload : (i : ℕ) (m : Schema) → member_at r.schema i ≡ Some m → binding_of m ≡ to_payload → q.body ≢ [] → is_raw_kind m.node.kind ≡ false → is_some (r.holds q.body) ≡ true
    payload i m at e some raw =
        let codec = codec_kind (is_raw_kind m.node.kind) (is_codec_kind m.node.kind) (payload_is_data r.schema (sound_input r.schema checked) i m at e) raw in
        let is : form_in r.schema ≡ form.Payload = payload_form r.schema (sound_input r.schema checked) i m at e ∙ codec_form m.node.kind (has_unbound_member r.schema) codec in
        let bytes : text_of_document r.protocol.text_of (first_value r.schema ws i) ≡ q.body =
        ap (text_of_document r.protocol.text_of) (sym (payload_value r.schema (sound_input r.schema checked) ws i m at e))
        ∙ sym (ap (λ f. bytes_by f r.protocol.text_of (body_parts r.schema ws)) is) ∙ sym (body_bytes r.protocol.text_of r.schema ws) ∙ same in
        by (first_value r.schema ws i) (payload_own_text r.protocol r.schema r.endpoint omit ws i m checked well_made typed at e is) bytes
      where
        by : (o : Option Value) → ((u : Value) → o ≡ Some u → HasOwnText m u) → text_of_document r.protocol.text_of o ≡ q.body → is_some (r.holds q.body) ≡ true
        by None own h = absurd (some (sym h))
        by (Some u) own h = own_told r lawful m u q.body (own u refl) h

    member : (i : ℕ) (m : Schema) → member_at r.schema i ≡ Some m → is_asked q.body m ≡ true → is_some (r.holds q.body) ≡ true
    member i m at asked = by (binding_of m) refl asked
      where
        by : (c : Binding) → binding_of m ≡ c → is_asked_at c m.node.kind q.body ≡ true → is_some (r.holds q.body) ≡ true
        by to_body e h = unbound i m at e
        by to_payload e h = let x = asked_payload m.node.kind q.body h in payload i m at e x.0 x.1
        by _ e h = absurd (cc h)

    go : (t : Bool) → reads_body r.schema q.body ≡ t → is_told t (r.holds q.body) ≡ true
    go false e = refl
    go true e = let x = any_at (is_asked q.body) (members_of r.schema) e in member x.0 x.1 (sym (members_by_position r.schema checked.cited x.0) ∙ x.2) x.3
