-- What a request's body is (Smithy, HTTP protocol bindings, httpPayload; unbound members are the document of the body).
use Rattle.std.specs.Prelude.{ℕ, Bool, true, false, not, List, [], find, Option, Some, None, option_map, option_and_then, unwrap_or, if◌then◌else◌}
use Rattle.smithy_binding.specs.Words.{list_any, Document, ShapeType, Schema, members_of, is_bound, Binding, to_payload, binding_of, Value, scalar, text, blob, structure, Write, writes_of, doc_of, firsts, unbound}
use Rattle.smithy_ids.specs.declared.shape_type.ShapeType.TheVariants as kind
use Rattle.smithy_binding.specs.declared.body_form.BodyForm.{BodyForm}
use Rattle.smithy_binding.specs.declared.body_form.BodyForm.TheVariants as form

-- the member is the payload
abbrev pub is_payload : Binding → Bool
is_payload to_payload = true
is_payload _ = false

-- the kind of the payload member, if there is one (httpPayload)
abbrev pub payload_kind : Schema → Option ShapeType
payload_kind schema = option_map (λ m. m.node.kind) (find (λ m. is_payload (binding_of m)) (members_of schema))

-- some member stands in the body
abbrev pub has_unbound_member : Schema → Bool
has_unbound_member schema = list_any (λ m. not (is_bound m)) (members_of schema)

-- the kinds of a payload whose bytes are the body (httpPayload)
abbrev pub is_raw_kind : ShapeType → Bool
is_raw_kind kind.Blob = true
is_raw_kind kind.String = true
is_raw_kind _ = false

-- the kinds of a payload whose document is the root of the body (httpPayload)
abbrev pub is_codec_kind : ShapeType → Bool
is_codec_kind kind.Structure = true
is_codec_kind kind.Union = true
is_codec_kind kind.List = true
is_codec_kind kind.Map = true
is_codec_kind kind.Document = true
is_codec_kind _ = false

-- the form for a payload of this kind, if there is one, and else of the unbound members, where there are some
abbrev pub form_at : Option ShapeType → Bool → BodyForm
form_at None has_unbound = if has_unbound then form.Unbound else form.Nothing
form_at (Some k) has_unbound = if is_raw_kind k then form.Raw else form.Payload

-- the form of a schema's bodies
abbrev pub form_in : Schema → BodyForm
form_in schema = form_at (payload_kind schema) (has_unbound_member schema)

-- the codec writes the body
abbrev pub is_codec : BodyForm → Bool
is_codec form.Raw = false
is_codec form.Payload = true
is_codec form.Unbound = true
is_codec form.Nothing = false

-- what a body is made of: the writes of unbound members in order, and the value of the payload's first write
pub record BodyParts : Type 0 where
  pub unbound : List Write
  pub payload : Option Value

-- those of a schema's writes
abbrev pub body_parts : Schema → List Write → BodyParts
body_parts schema ws = record {
  unbound = unbound schema ws;
  payload = option_map (λ r. r.value) (find (λ r. is_payload (binding_of r.member)) (firsts schema ws));
}

-- the value whose document the body is, if there is one
abbrev pub document_by : BodyForm → BodyParts → Option Value
document_by form.Raw parts = None
document_by form.Payload parts = parts.payload
document_by form.Unbound parts = Some (structure (writes_of parts.unbound))
document_by form.Nothing parts = None

unfoldable pub document_value : Schema → List Write → Option Value
document_value schema ws = document_by (form_in schema) (body_parts schema ws)

-- the bytes of a text or a blob
abbrev pub raw_bytes : Value → List ℕ
raw_bytes (scalar (text t)) = t
raw_bytes (scalar (blob bytes)) = bytes
raw_bytes _ = []

-- the codec's text of the value's document, none without a value
abbrev pub text_of_document : (Document → List ℕ) → Option Value → List ℕ
text_of_document text_of v = unwrap_or (option_map text_of (option_and_then doc_of v)) []

-- the bytes of a raw payload, or else the text of the document; none where the payload was not written
abbrev pub bytes_by : BodyForm → (Document → List ℕ) → BodyParts → List ℕ
bytes_by form.Raw text_of parts = unwrap_or (option_map raw_bytes parts.payload) []
bytes_by f text_of parts = text_of_document text_of (document_by f parts)

-- the bytes with their form
pub record Body : Type 0 where
  pub bytes : List ℕ
  pub form : BodyForm

-- The bytes of a Blob or String payload; or the text of the document of a payload of another kind, empty without one;
-- or that of the object of the unbound writes; or nothing.
unfoldable pub body : (Document → List ℕ) → Schema → List Write → Body
body text_of schema ws = record { bytes = bytes_by (form_in schema) text_of (body_parts schema ws); form = form_in schema }
