-- What a response has for one bound member (Smithy, HTTP protocol bindings: httpHeader, httpPrefixHeaders, httpResponseCode, httpPayload).
use Rattle.std.specs.Prelude.{ℕ, Bool, true, false, not, ◌&&◌, ◌||◌, codes, List, [], ◌∷◌, ◌++◌, Option, Some, None, is_none, if◌then◌else◌}
use Rattle.smithy_response.specs.Words.{list_all, ShapeType, Response, Schema, name_of, SerdeError, InvalidInput, Held, is_empty_text}
use Rattle.smithy_ids.specs.declared.shape_type.ShapeType.TheVariants as kind
use Rattle.smithy_ids.specs.Kinds.{same_kind}
use Rattle.smithy_serde.specs.Held as held
use Rattle.smithy_response.specs.PrefixedHeaders.{values_named, prefixed_in}

-- where a member of a response stands: the first of its bindings
pub data Source : Type 0 where
  in_header in_prefix : List ℕ → Source
  in_status in_payload in_body : Source

abbrev pub source_at : Option (List ℕ) → Option (List ℕ) → Bool → Bool → Source
source_at (Some name) prefix code payload = in_header name
source_at None (Some prefix) code payload = in_prefix prefix
source_at None None true payload = in_status
source_at None None false true = in_payload
source_at None None false false = in_body

abbrev pub source_of : Schema → Source
source_of m = let t = m.node.traits in source_at t.http_header t.http_prefix_headers t.http_response_code t.http_payload

-- what is made of a bound member
pub data Route : Type 0 where
  -- it is not handed out
  passed_over : Route
  handed_out : Held → Route
  -- what the body's reader holds is handed out
  handed_body : Route
  -- nothing can be handed out from here on
  refused : SerdeError → Route

-- a text that is read whole and not as a list of tokens
abbrev pub is_plain_text : Schema → Bool
is_plain_text m = same_kind m.node.kind kind.String && is_none m.node.traits.media_type

-- no value has a byte
abbrev pub are_empty : List (List ℕ) → Bool
are_empty values = list_all is_empty_text values

-- there is nothing for the member in these values: one that is no plain text needs a byte
abbrev pub has_nothing : Schema → List (List ℕ) → Bool
has_nothing m values = not (is_plain_text m) && are_empty values

-- A header is handed out where it is there and has something for the member.
abbrev pub header_route : Schema → List ℕ → List (List ℕ) → Route
header_route m name [] = passed_over
header_route m name (value ∷ values) =
    if has_nothing m (value ∷ values) then passed_over else handed_out (held.header name (value ∷ values))

-- a payload that is taken as it is
abbrev pub is_raw : ShapeType → Bool
is_raw k = same_kind k kind.Blob || same_kind k kind.String

abbrev pub not_buffered : List ℕ → SerdeError
not_buffered member =
    InvalidInput (codes "member `" ++ (member ++ codes "` has a non-streaming @httpPayload but the response body was not buffered"))

-- an empty body is no payload
abbrev pub body_route : Schema → List ℕ → Route
body_route m [] = passed_over
body_route m (b ∷ bytes) = if is_raw m.node.kind then handed_out (held.raw (b ∷ bytes)) else handed_body

abbrev pub buffered_route : Schema → Option (List ℕ) → Route
buffered_route m None = refused (not_buffered (name_of m))
buffered_route m (Some bytes) = body_route m bytes

-- a streamed payload is not handed out
abbrev pub payload_route : Schema → Option (List ℕ) → Route
payload_route m bytes = if m.node.traits.streaming then passed_over else buffered_route m bytes

abbrev pub route_at : Source → Schema → Response → Route
route_at (in_header name) m response = header_route m name (values_named name response.headers)
route_at (in_prefix prefix) m response = handed_out (held.prefixed (prefixed_in prefix response.headers))
route_at in_status m response = handed_out (held.status response.status)
route_at in_payload m response = payload_route m response.body
route_at in_body m response = passed_over

-- of a member, what the response has for it
abbrev pub route : Schema → Response → Route
route m response = route_at (source_of m) m response
