-- The body of a response is read as the payload that was written.
use Rattle.smithy_served.proofs.Common.{as_output, reads_normal_form, body_route, handed_body, handed_out, in_payload, is_raw, passed_over, payload_route, source_of, read_scalar, value_by_kind, value_within, value_read, first_value, payload_view, is_shaped_payload, Bool, Held, IsLawfulText, IsTrue, List, None, Ok, Option, Protocol, Schema, ShapeType, Some, Value, Write, [], ap, body, body_parts, bytes_by, each, false, fits, form_at, form_in, has_unbound_member, if◌then◌else◌, inl, inr, is_codec_kind, is_in_range, is_outside_body, is_raw_kind, is_well_made, not, option_and_then, option_map, raw_bytes, refl, settled, subst, sym, text_of_document, true, unless_empty, unwrap_or, ℕ, ◌&&◌, text_form, ◌||◌, ◌∙◌, ◌∷◌, ◌≡◌, ◌≢◌, ◌⊎◌, given, member_in_place, HasOwnText, blob_form, body_bytes, codec_form, data_kind, document_value_is, own_bytes, own_text, payload_form, payload_is_data, payload_value, first_has, IsUtf8-from_is_utf8, utf8_lossy-IsUtf8, IsMemberInPlace, is_shaped, BodyForm, is_empty_text}
use Rattle.smithy_ids.specs.declared.shape_type.ShapeType.TheVariants as kind
use Rattle.smithy_serde.specs.Held as held
use Rattle.smithy_serde.specs.Values as value
use Rattle.smithy_binding.specs.declared.body_form.BodyForm.TheVariants as form
use Rattle.smithy_served.proofs.MemberHanded.{HandsSame, read_as}
use Rattle.smithy_served.proofs.Alike.{first_value-out}
use Rattle.smithy_served.proofs.Messages.{StandsIn, stands_in}
use Rattle.smithy_served.proofs.Conforming.{IsMember, at_out, message, fitting, fits_kind}

-- Raw payloads.

raw_read : (m : Schema) (k : ShapeType) (bytes : List ℕ) (v : Value) → m.node.kind ≡ k → value_by_kind (value_within 0) k m (held.raw bytes) ≡ Ok v → value_read m (held.raw bytes) ≡ Ok v
unfolding value_read
raw_read m k bytes v is e = ap (λ k. value_by_kind (value_within 0) k m (held.raw bytes)) is ∙ e

-- bytes that are read as this value are handed out, and none are not
raw_handed : (h : Held) (m : Schema) (k : ShapeType) (bytes : List ℕ) (v : Value) → m.node.kind ≡ k → is_raw k ≡ true → value_by_kind (value_within 0) k m (held.raw bytes) ≡ Ok v
    → HandsSame h (body_route m bytes) m (if is_empty_text bytes then None else Some v)
raw_handed h m k [] v is raw e = refl
raw_handed h m k (b ∷ bytes) v is raw e = subst (λ t. HandsSame h (if t then handed_out (held.raw (b ∷ bytes)) else handed_body) m (Some v)) (sym (ap is_raw is ∙ raw)) (read_as m (held.raw (b ∷ bytes)) v (raw_read m k (b ∷ bytes) v is e))

blob_handed : (h : Held) (m : Schema) (u : Value) → m.node.kind ≡ kind.Blob → fits kind.Blob u ≡ true → HandsSame h (body_route m (raw_bytes u)) m (unless_empty u)
unfolding read_scalar
blob_handed h m u is fit = let x = blob_form u fit in subst (λ u. HandsSame h (body_route m (raw_bytes u)) m (unless_empty u)) (sym x.1) (subst (HandsSame h (body_route m x.0) m) (by x.0) (raw_handed h m kind.Blob x.0 (value.scalar (value.blob x.0)) is refl refl))
  where
    by : (b : List ℕ) → (if is_empty_text b then None else Some (value.scalar (value.blob b))) ≡ unless_empty (value.scalar (value.blob b))
    by [] = refl
    by (x ∷ b) = refl

string_handed : (h : Held) (m : Schema) (u : Value) → m.node.kind ≡ kind.String → fits kind.String u ≡ true → is_in_range u ≡ true → HandsSame h (body_route m (raw_bytes u)) m (unless_empty u)
unfolding read_scalar
string_handed h m u is fit range =
    let x = text_form u fit in
    let utf8 = IsUtf8-from_is_utf8 x.0 (ap is_in_range (sym x.1) ∙ range) in
    subst (λ u. HandsSame h (body_route m (raw_bytes u)) m (unless_empty u)) (sym x.1) (subst (HandsSame h (body_route m x.0) m) (by x.0)
    (raw_handed h m kind.String x.0 (value.scalar (value.text x.0)) is refl (ap (λ t. Ok (value.scalar (value.text t))) (utf8_lossy-IsUtf8 x.0 utf8))))
  where
    by : (t : List ℕ) → (if is_empty_text t then None else Some (value.scalar (value.text t))) ≡ unless_empty (value.scalar (value.text t))
    by [] = refl
    by (x ∷ t) = refl

-- Payloads that the codec writes.

not_raw : (k : ShapeType) → is_codec_kind k ≡ true → is_raw k ≡ false
not_raw kind.Structure e = refl
not_raw kind.Union e = refl
not_raw kind.List e = refl
not_raw kind.Map e = refl
not_raw kind.Document e = refl
not_raw _ e = absurd (cc e)

some_route : (m : Schema) (bytes : List ℕ) → bytes ≢ [] → is_codec_kind m.node.kind ≡ true → body_route m bytes ≡ handed_body
some_route m [] some codec = absurd (some refl)
some_route m (b ∷ bytes) some codec = ap (λ t. if t then handed_out (held.raw (b ∷ bytes)) else handed_body) (not_raw m.node.kind codec)

module _ (protocol : Protocol) (schema : Schema) (ws : List Write) (i : ℕ) (m : Schema) (is : IsMember protocol schema ws i m) (payload_is : source_of m ≡ in_payload) (well_made : is_well_made schema ≡ true)
    (holds : List ℕ → Option Held) (lawful : IsLawfulText protocol.text_of holds) (h : Held) (holding : holds (body protocol.text_of (as_output schema) ws).bytes ≡ Some h) where
  abbrev out : Schema
  out = as_output schema

  stands : StandsIn m in_payload
  stands = stands_in m in_payload payload_is

  own : IsMemberInPlace i m
  own = member_in_place schema i m well_made is.at

  -- the body's bytes, by the form of the body and the first write
  abbrev bytes : List ℕ
  bytes = (body protocol.text_of (as_output schema) ws).bytes

  first_payload : (body_parts out ws).payload ≡ first_value schema ws i
  first_payload = payload_value out (message protocol schema ws i m is) ws i (as_output m) (at_out protocol schema ws i m is) stands.binding ∙ first_value-out schema ws i

  formed : (k : ShapeType) → m.node.kind ≡ k → form_in out ≡ form_at (Some k) (has_unbound_member out)
  formed k of_kind = payload_form out (message protocol schema ws i m is) i (as_output m) (at_out protocol schema ws i m is) stands.binding ∙ ap (λ k. form_at (Some k) (has_unbound_member out)) of_kind

  bytes_are : (f : BodyForm) → form_in out ≡ f → bytes ≡ bytes_by f protocol.text_of (record (body_parts out ws) { payload = first_value schema ws i })
  bytes_are f e = body_bytes protocol.text_of out ws ∙ (λ j. bytes_by (e j) protocol.text_of (record (body_parts out ws) { payload = first_payload j }))

  fitting_kind : (k : ShapeType) → m.node.kind ≡ k → (u : Value) → first_value schema ws i ≡ Some u → fits k u ≡ true
  fitting_kind k of_kind u e = ap (λ k. fits k u) (sym of_kind) ∙ fits_kind protocol schema ws i m is u e (ap is_outside_body stands.binding)

  -- the view of a payload that is not streamed
  abbrev buffered_view : Value → Option Value
  buffered_view u = if is_codec_kind m.node.kind then Some (settled (Some m) u) else unless_empty u

  raw_back : (k : ShapeType) → m.node.kind ≡ k → is_raw_kind k ≡ true → is_codec_kind k ≡ false → ((u : Value) → first_value schema ws i ≡ Some u → HandsSame h (body_route m (raw_bytes u)) m (unless_empty u))
      → HandsSame h (body_route m bytes) m (option_and_then buffered_view (first_value schema ws i))
  raw_back k of_kind raw other each =
      subst (λ b. HandsSame h (body_route m b) m (option_and_then buffered_view (first_value schema ws i))) (sym (bytes_are form.Raw (formed k of_kind ∙ ap (λ t. if t then form.Raw else form.Payload) raw)))
      (subst (λ t. HandsSame h (body_route m (unwrap_or (option_map raw_bytes (first_value schema ws i)) [])) m (option_and_then (λ u. if t then Some (settled (Some m) u) else unless_empty u) (first_value schema ws i))) (sym (ap is_codec_kind of_kind ∙ other))
      (go (first_value schema ws i) each))
    where
      go : (o : Option Value) → ((u : Value) → o ≡ Some u → HandsSame h (body_route m (raw_bytes u)) m (unless_empty u)) → HandsSame h (body_route m (unwrap_or (option_map raw_bytes o) [])) m (option_and_then unless_empty o)
      go None each = refl
      go (Some u) each = each u refl

  -- the value that the codec writes has a text of its own, and is read of it
  codec_back : is_codec_kind m.node.kind ≡ true → HandsSame h (body_route m bytes) m (option_and_then buffered_view (first_value schema ws i))
  codec_back codec =
      subst (λ t. HandsSame h (body_route m bytes) m (option_and_then (λ u. if t then Some (settled (Some m) u) else unless_empty u) (first_value schema ws i))) (sym codec)
      (go (first_value schema ws i) refl)
    where
      form_is : form_in out ≡ form.Payload
      form_is = formed m.node.kind refl ∙ codec_form m.node.kind (has_unbound_member out) codec

      own_written : (u : Value) → first_value schema ws i ≡ Some u → HasOwnText m u
      own_written u e =
          own_text out ws m u is.typed.shallow own.stands (document_value_is out ws form.Payload form_is ∙ first_payload ∙ e)
          (ap (λ b. not b || is_shaped (Some m) u) (λ j. sym stands.says j && sym codec j) ∙ first_has (λ r. IsTrue (is_shaped_payload r)) schema ws i m u is.at e is.typed.payload_shaped)

      go : (o : Option Value) → first_value schema ws i ≡ o → HandsSame h (body_route m bytes) m (option_and_then (λ u. Some (settled (Some m) u)) o)
      go None e = subst (λ b. HandsSame h (body_route m b) m None) (sym (bytes_are form.Payload form_is ∙ ap (text_of_document protocol.text_of) e)) refl
      go (Some u) e =
          let w = own_written u e in
          let text : bytes ≡ protocol.text_of w.doc = bytes_are form.Payload form_is ∙ ap (text_of_document protocol.text_of) e ∙ own_bytes protocol.text_of m u w in
          let both : Some (held.document w.doc) ≡ Some h = sym (lawful.reads_back w.doc w.sound w.shallow) ∙ ap holds (sym text) ∙ holding in
          let same : held.document w.doc ≡ h = cc both in
          subst (λ r. HandsSame h r m (Some (settled (Some m) u))) (sym (some_route m bytes (λ none. lawful.is_not_empty w.doc w.sound (sym text ∙ none)) codec))
          (stands.says, read_as m h (settled (Some m) u) (ap (value_read m) (sym same) ∙ reads_normal_form m u w.doc own.stands w.shaped w.has))

  pub payload_handed : (given : Option (List ℕ)) → given ≡ Some bytes → HandsSame h (payload_route m given) m (option_and_then (payload_view m) (first_value schema ws i))
  payload_handed given same =
      subst (λ o. HandsSame h (payload_route m o) m (option_and_then (payload_view m) (first_value schema ws i))) (sym same)
      (streamed m.node.traits.streaming (buffered (data_kind m.node.kind (payload_is_data out (message protocol schema ws i m is) i (as_output m) (at_out protocol schema ws i m is) stands.binding))))
    where
      buffered : (m.node.kind ≡ kind.Blob) ⊎ ((m.node.kind ≡ kind.String) ⊎ (is_codec_kind m.node.kind ≡ true)) → HandsSame h (body_route m bytes) m (option_and_then buffered_view (first_value schema ws i))
      buffered (inl e) = raw_back kind.Blob e refl refl (λ u x. blob_handed h m u e (fitting_kind kind.Blob e u x))
      buffered (inr (inl e)) = raw_back kind.String e refl refl (λ u x. string_handed h m u e (fitting_kind kind.String e u x) (fitting protocol schema ws i m is u x).in_range)
      buffered (inr (inr codec)) = codec_back codec

      none : (o : Option Value) → ◌≡◌ {A = Option Value} (option_and_then (λ (u : Value). None) o) None
      none None = refl
      none (Some u) = refl

      streamed : (t : Bool) → HandsSame h (body_route m bytes) m (option_and_then buffered_view (first_value schema ws i))
          → HandsSame h (if t then passed_over else body_route m bytes) m (option_and_then (λ u. if t then None else buffered_view u) (first_value schema ws i))
      streamed true rest = none (first_value schema ws i)
      streamed false rest = rest
