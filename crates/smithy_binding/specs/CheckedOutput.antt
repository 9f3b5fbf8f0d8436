-- Schemas that a response can be read by: the rules of an input, for the bindings of a response.
use Rattle.std.specs.Prelude.{◌≡◌, ◌+◌, nat_le, Bool, not, ◌&&◌, ◌||◌, Option, is_some, is_none, option_map, find, IsTrue, All}
use Rattle.std.specs.Int.{from_bool}
use Rattle.smithy_binding.specs.Words.{list_all, list_any, AreDistinct, ShapeType, same_kind, is_unwritable, Schema, cites_nodes, members_of, is_response_bound}
use Rattle.smithy_ids.specs.declared.shape_type.ShapeType.TheVariants as kind
use Rattle.smithy_binding.specs.Checked.{has_cited_nodes, has_named_members, member_names, is_writable, has_header_kind, is_element_plain, members_with, has_at_most_one, is_sound_payload, is_text_map, has_prefix_kind, has_sound_headers}

-- a member has at most one of the four response bindings (httpHeader, httpPrefixHeaders, httpResponseCode, httpPayload)
abbrev pub is_response_bound_once : Schema → Bool
is_response_bound_once m =
    let t = m.node.traits in
    nat_le (from_bool (is_some t.http_header) + from_bool (is_some t.http_prefix_headers) + from_bool t.http_response_code + from_bool t.http_payload) 1

-- the elements of a list in a header are plain
abbrev pub has_plain_header_elements : Schema → Bool
has_plain_header_elements m = is_none m.node.traits.http_header || is_element_plain m

-- the kind of the payload member of a response (httpPayload)
abbrev pub response_payload_kind : Schema → Option ShapeType
response_payload_kind schema = option_map (λ m. m.node.kind) (find (λ m. m.node.traits.http_payload) (members_of schema))

-- some member of a response stands in its body
abbrev pub has_response_body_member : Schema → Bool
has_response_body_member schema = list_any (λ m. not (is_response_bound m)) (members_of schema)

-- at most one payload, of a payload's kind, beside which no member is unbound (httpPayload)
abbrev pub has_sound_response_payload : Schema → Bool
has_sound_response_payload schema =
    has_at_most_one (λ t. t.http_payload) schema && is_sound_payload (response_payload_kind schema) (has_response_body_member schema)

-- at most one prefix map, from texts to texts (httpPrefixHeaders)
abbrev pub has_sound_prefix_map : Schema → Bool
has_sound_prefix_map schema =
    has_at_most_one (λ t. is_some t.http_prefix_headers) schema && list_all is_text_map (members_with (λ t. is_some t.http_prefix_headers) schema)

-- at most one response code, of kind Integer (httpResponseCode)
abbrev pub has_sound_response_code : Schema → Bool
has_sound_response_code schema =
    has_at_most_one (λ t. t.http_response_code) schema
    && list_all (λ m. same_kind m.node.kind kind.Integer) (members_with (λ t. t.http_response_code) schema)

-- a response code is an Integer (httpResponseCode)
abbrev pub has_code_kind : Schema → Bool
has_code_kind m = not m.node.traits.http_response_code || same_kind m.node.kind kind.Integer

-- what is asked of each member
abbrev pub is_sound_response_member : Schema → Bool
is_sound_response_member m =
    cites_nodes m && is_response_bound_once m && not (is_unwritable m.node.kind) && has_header_kind m && has_plain_header_elements m && has_prefix_kind m && has_code_kind m

-- a checked output schema, as a test
unfoldable pub checked_output : Schema → Bool
checked_output schema =
    has_named_members schema
    && (list_all is_sound_response_member (members_of schema)
    && has_sound_response_payload schema
    && has_at_most_one (λ t. is_some t.http_prefix_headers) schema
    && has_at_most_one (λ t. t.http_response_code) schema
    && has_sound_headers schema)

-- a checked output schema, as facts, one for each rule
pub record IsCheckedOutput (schema : Schema) : Type 0 where
  pub structure : schema.node.kind ≡ kind.Structure
  pub cited : IsTrue (has_cited_nodes schema)
  pub names : AreDistinct (member_names schema)
  pub bound_once : All (λ m. IsTrue (is_response_bound_once m)) (members_of schema)
  pub writable : All (λ m. IsTrue (is_writable m)) (members_of schema)
  pub kinds : All (λ m. IsTrue (has_header_kind m)) (members_of schema)
  pub elements : All (λ m. IsTrue (has_plain_header_elements m)) (members_of schema)
  pub payload : IsTrue (has_sound_response_payload schema)
  pub prefix_map : IsTrue (has_sound_prefix_map schema)
  pub unlike_names : IsTrue (has_sound_headers schema)
  pub response_code : IsTrue (has_sound_response_code schema)
