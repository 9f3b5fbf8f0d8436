-- Outputs that are read back from their response, up to their normal form.
use Rattle.std.specs.Prelude.{◌≡◌, ℕ, nat_eq, Bool, true, not, ◌&&◌, ◌||◌, List, None, option_and_then, is_some, IsTrue, filter}
use Rattle.std.specs.List.{list_all, list_any, starts_with, AllByRecursion}
use Rattle.std.specs.Str.{chars, str_to_ascii_lowercase}
use Rattle.smithy_http.specs.Quoting.{begins_with_white_space, ends_with_white_space}
use Rattle.smithy_schema.specs.Nodes.{Schema, members_of, binding_of, is_response_bound}
use Rattle.smithy_serde.specs.DocumentOf.{doc_of}
use Rattle.smithy_serde.specs.Ranges.{are_in_range}
use Rattle.smithy_serde.specs.Values.{Value, Write, text_of_key}
use Rattle.smithy_serde.specs.Writes.{Resolved, all_resolved, firsts}
use Rattle.smithy_binding.specs.Bindings.{headers, map_entries}
use Rattle.smithy_binding.specs.Bodies.{body, document_value, is_codec_kind}
use Rattle.smithy_binding.specs.Checked.{prefixes}
use Rattle.smithy_binding.specs.Outputs.{as_output, keep_defaults}
use Rattle.smithy_binding.specs.Placing.{Protocol}
use Rattle.smithy_binding.specs.ResponseCodes.{code_write}
use Rattle.smithy_binding.specs.Typed.{default_names, has_distinct_keys, has_own_formats, is_shallow, is_shaped_write, writes_default}
use Rattle.smithy_response.specs.Routes.{Source, in_header, in_prefix, source_of, is_plain_text}
use Rattle.smithy_serve.specs.Answer.{answer_fault}

-- the writes to members that no binding of a response takes out of the body
abbrev pub bodied : Schema → List Write → List Resolved
bodied schema ws = filter (λ r. not (is_response_bound r.member)) (all_resolved schema ws)

-- a payload whose document is the body (httpPayload)
abbrev pub is_codec_payload : Schema → Bool
is_codec_payload m = m.node.traits.http_payload && is_codec_kind m.node.kind

-- the first write of such a payload is shaped
abbrev pub is_shaped_payload : Resolved → Bool
is_shaped_payload r = not (is_codec_payload r.member) || is_shaped_write r

-- no white space stands at the ends of a text
abbrev pub is_trimmed : List ℕ → Bool
is_trimmed text = not (begins_with_white_space (chars text)) && not (ends_with_white_space (chars text))

-- The values of the prefix map have no outer white space, and each of its keys stands once. A text that is a header as it is has
-- none either, and the elements of a list are written with the schema's time format.
abbrev pub is_typed_at : Source → Schema → Value → Bool
is_typed_at (in_header name) m v = (not (is_plain_text m) || is_trimmed (text_of_key v)) && has_own_formats m v
is_typed_at (in_prefix prefix) m v = list_all (λ e. is_trimmed (text_of_key e.1)) (map_entries v) && has_distinct_keys v
is_typed_at _ m v = true

abbrev pub is_typed_header : Resolved → Bool
is_typed_header r = is_typed_at (source_of r.member) r.member r.value

-- some member is the response code
abbrev pub has_code : Schema → Bool
has_code schema = list_any (λ m. m.node.traits.http_response_code) (members_of schema)

-- the prefix, without case, begins no name of a header that a protocol adds by itself
abbrev pub begins_no_default : List ℕ → Bool
begins_no_default prefix = not (list_any (λ name. starts_with nat_eq name (str_to_ascii_lowercase prefix)) default_names)

-- a header member with a default's name is written where that default would be added
abbrev pub writes_defaults : Protocol → Schema → List Write → Bool
writes_defaults protocol out ws =
    list_all (λ m. writes_default (body protocol.text_of out ws) keep_defaults (headers out ws) (binding_of m)) (members_of out)

-- The outputs of a protocol and a schema that a response gives back, up to their normal form.
pub record IsTypedOutput (protocol : Protocol) (schema : Schema) (ws : List Write) : Type 0 where
  pub in_range : IsTrue (are_in_range ws)
  pub conforming : answer_fault schema ws ≡ None
  pub unbound_shaped : AllByRecursion (λ r. IsTrue (is_shaped_write r)) (bodied schema ws)
  pub payload_shaped : AllByRecursion (λ r. IsTrue (is_shaped_payload r)) (firsts schema ws)
  pub shallow : IsTrue (is_shallow (option_and_then doc_of (document_value (as_output schema) ws)))
  pub header_values : AllByRecursion (λ r. IsTrue (is_typed_header r)) (firsts schema ws)
  pub code : IsTrue (not (has_code schema) || is_some (code_write (as_output schema) ws))
  pub defaults : IsTrue (writes_defaults protocol (as_output schema) ws)
  pub prefixed : IsTrue (list_all begins_no_default (prefixes schema))
