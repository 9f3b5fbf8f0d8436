-- Schemas that a request can be placed by (Smithy, HTTP protocol bindings: where each trait may stand, and beside which).
use Rattle.std.specs.Prelude.{◌≡◌, ℕ, ◌+◌, nat_eq, nat_le, Bool, true, false, not, ◌&&◌, ◌||◌, ◌==◌, codes, List, length, map, filter, filter_map, Option, is_some, is_none, IsTrue, All}
use Rattle.smithy_binding.specs.Words.{list_all, list_any, starts_with, option_eq, option_map_or, str_to_ascii_lowercase, TimestampFormat, are_distinct, AreDistinct, is_token, ShapeType, same_kind, is_scalar, is_unwritable, is_structure_or_union, Schema, Traits, at_place, cites_nodes, members_of, element_of, key_of, value_of}
use denote.Enum.Declared.{tag_of}
use Rattle.std.specs.Int.{from_bool}
use Rattle.smithy_ids.specs.contracts.traits.TimestampFormat.{the_type}
use Rattle.smithy_ids.specs.declared.shape_type.ShapeType.TheVariants as kind
use Rattle.smithy_ids.specs.declared.payload_hint.PayloadHint.{PayloadHint}
use Rattle.smithy_ids.specs.declared.payload_hint.PayloadHint.TheVariants.{Unknown, NoStructPayload, StructPayload}
use Rattle.smithy_binding.specs.Clear.{is_clear}
use Rattle.smithy_binding.specs.Bindings.{query_names}
use Rattle.smithy_binding.specs.Bodies.{payload_kind, has_unbound_member, is_raw_kind, is_codec_kind}

-- every node that the schema or a member cites is defined
abbrev pub has_cited_nodes : Schema → Bool
has_cited_nodes schema =
    list_all (λ p. is_some (at_place schema.table p)) schema.node.members && list_all cites_nodes (members_of schema)

-- the names of the members, as far as they have names
abbrev pub member_names : Schema → List (List ℕ)
member_names schema = filter_map (λ m. m.node.member_name) (members_of schema)

-- a member has at most one of the six request bindings (httpHeader, httpQuery, httpLabel, httpPrefixHeaders, httpQueryParams, httpPayload)
abbrev pub is_bound_once : Schema → Bool
is_bound_once m =
    let t = m.node.traits in
    nat_le (from_bool (is_some t.http_header) + from_bool (is_some t.http_query) + from_bool t.http_label
    + from_bool (is_some t.http_prefix_headers) + from_bool t.http_query_params + from_bool t.http_payload) 1

-- a list whose element's kind passes the test
abbrev pub has_element : (ShapeType → Bool) → Schema → Bool
has_element test m = same_kind m.node.kind kind.List && option_map_or (λ e. test e.node.kind) (element_of m) false

-- a scalar or Blob: the kinds of one header value
abbrev pub is_header_kind : ShapeType → Bool
is_header_kind k = is_scalar k || same_kind k kind.Blob

-- a label is a scalar (httpLabel)
abbrev pub has_label_kind : Schema → Bool
has_label_kind m = not m.node.traits.http_label || is_scalar m.node.kind

-- a query member is a scalar or a list of scalars (httpQuery)
abbrev pub has_query_kind : Schema → Bool
has_query_kind m = is_none m.node.traits.http_query || is_scalar m.node.kind || has_element is_scalar m

-- a header is a scalar, a Blob or a list of these (httpHeader)
abbrev pub has_header_kind : Schema → Bool
has_header_kind m = is_none m.node.traits.http_header || is_header_kind m.node.kind || has_element is_header_kind m

-- a bound member has a kind of its binding
abbrev pub has_bound_kind : Schema → Bool
has_bound_kind m = has_label_kind m && has_query_kind m && has_header_kind m

-- both nodes name one time format, as `==` of formats tells it, or neither names one (timestampFormat)
abbrev pub same_format : Option TimestampFormat → Option TimestampFormat → Bool
same_format f g = option_eq (λ x y. tag_of the_type x == tag_of the_type y) f g

-- the element of a list, if it has one, has no media type, and the list's time format or none where that has none (mediaType, timestampFormat)
abbrev pub is_element_plain : Schema → Bool
is_element_plain m =
    not (same_kind m.node.kind kind.List)
    || option_map_or (λ e. is_none e.node.traits.media_type && same_format e.node.traits.timestamp_format m.node.traits.timestamp_format) (element_of m) true

-- the elements of a list in a header or the query are plain
abbrev pub has_plain_elements : Schema → Bool
has_plain_elements m = (is_none m.node.traits.http_query && is_none m.node.traits.http_header) || is_element_plain m

-- one member or none passes the test
abbrev pub has_at_most_one : (Traits → Bool) → Schema → Bool
has_at_most_one test schema = nat_le (length (filter (λ m. test m.node.traits) (members_of schema))) 1

-- a payload, if there is one, has bytes or a document, and no member is unbound beside it (httpPayload)
abbrev pub is_sound_payload : Option ShapeType → Bool → Bool
is_sound_payload payload is_beside_unbound = option_map_or (λ k. (is_raw_kind k || is_codec_kind k) && not is_beside_unbound) payload true

-- at most one payload, of a payload's kind, beside which no member is unbound (httpPayload)
abbrev pub has_sound_payload : Schema → Bool
has_sound_payload schema =
    has_at_most_one (λ t. t.http_payload) schema && is_sound_payload (payload_kind schema) (has_unbound_member schema)

-- a String without a media type stands there
abbrev pub is_plain_string : Option Schema → Bool
is_plain_string node = option_map_or (λ s. same_kind s.node.kind kind.String && is_none s.node.traits.media_type) node false

-- a list of plain Strings without a media type stands there
abbrev pub is_plain_list : Option Schema → Bool
is_plain_list node =
    option_map_or (λ s. same_kind s.node.kind kind.List && is_none s.node.traits.media_type && is_plain_string (element_of s)) node false

-- a map from plain Strings to plain Strings
abbrev pub is_text_map : Schema → Bool
is_text_map m = same_kind m.node.kind kind.Map && is_plain_string (key_of m) && is_plain_string (value_of m)

-- a map from plain Strings to plain Strings or to lists of these
abbrev pub is_query_map : Schema → Bool
is_query_map m =
    same_kind m.node.kind kind.Map && is_plain_string (key_of m) && (is_plain_string (value_of m) || is_plain_list (value_of m))

-- the members whose traits pass the test
abbrev pub members_with : (Traits → Bool) → Schema → List Schema
members_with test schema = filter (λ m. test m.node.traits) (members_of schema)

-- At most one prefix map, from texts to texts, and one query map, from texts to texts or to lists of texts
-- (httpPrefixHeaders, httpQueryParams).
abbrev pub has_sound_maps : Schema → Bool
has_sound_maps schema =
    has_at_most_one (λ t. is_some t.http_prefix_headers) schema
    && has_at_most_one (λ t. t.http_query_params) schema
    && list_all is_text_map (members_with (λ t. is_some t.http_prefix_headers) schema)
    && list_all is_query_map (members_with (λ t. t.http_query_params) schema)

-- the names of the header members in lower case; header names have no case (RFC 7230, section 3.2)
abbrev pub lower_header_names : Schema → List (List ℕ)
lower_header_names schema = map str_to_ascii_lowercase (filter_map (λ m. m.node.traits.http_header) (members_of schema))

-- the prefixes of the prefix maps
abbrev pub prefixes : Schema → List (List ℕ)
prefixes schema = filter_map (λ m. m.node.traits.http_prefix_headers) (members_of schema)

-- empty or a token, and without case at the start of no header member's name: so the empty one is alone
abbrev pub is_sound_prefix : Schema → List ℕ → Bool
is_sound_prefix schema prefix =
    ((length prefix == 0) || is_token prefix)
    && not (list_any (λ name. starts_with nat_eq name (str_to_ascii_lowercase prefix)) (lower_header_names schema))

-- header names are tokens (RFC 7230, section 3.2.6), distinct without case, and no prefix begins one
abbrev pub has_sound_headers : Schema → Bool
has_sound_headers schema =
    list_all is_token (lower_header_names schema) && are_distinct (lower_header_names schema) && list_all (is_sound_prefix schema) (prefixes schema)

-- and the query names are distinct
abbrev pub has_sound_names : Schema → Bool
has_sound_names schema = has_sound_headers schema && are_distinct (query_names schema)

-- the hint says nothing, or whether there is a structure payload
abbrev pub agrees : PayloadHint → Bool → Bool
agrees Unknown has_struct_payload = true
agrees StructPayload has_struct_payload = has_struct_payload
agrees NoStructPayload has_struct_payload = not has_struct_payload

-- the flag of no body members and the payload hint say what holds
abbrev pub has_true_flags : Schema → Bool
has_true_flags schema =
    (not schema.node.has_no_body_members || not (has_unbound_member schema))
    && agrees schema.node.hint (option_map_or is_structure_or_union (payload_kind schema) false)

-- with `@http` the method is a token, and the template is clear and begins with `/` (http)
abbrev pub has_sound_http : Schema → Bool
has_sound_http schema =
    option_map_or (λ h. is_token h.method && is_clear h.uri schema && starts_with nat_eq h.uri (codes "/")) schema.node.traits.http true

-- a prefix map is one from texts to texts (httpPrefixHeaders)
abbrev pub has_prefix_kind : Schema → Bool
has_prefix_kind m = not (is_some m.node.traits.http_prefix_headers) || is_text_map m

-- and a query map one from texts to texts or to lists of these (httpQueryParams)
abbrev pub has_map_kind : Schema → Bool
has_map_kind m = has_prefix_kind m && (not m.node.traits.http_query_params || is_query_map m)

-- what is asked of each member
abbrev pub is_sound_member : Schema → Bool
is_sound_member m = cites_nodes m && is_bound_once m && not (is_unwritable m.node.kind) && has_bound_kind m && has_plain_elements m && has_map_kind m

-- the place of each member has a node
abbrev pub has_defined_members : Schema → Bool
has_defined_members schema = list_all (λ p. is_some (at_place schema.table p)) schema.node.members

-- a structure whose members are defined and have distinct names
abbrev pub has_named_members : Schema → Bool
has_named_members schema = same_kind schema.node.kind kind.Structure && has_defined_members schema && are_distinct (member_names schema)

-- a checked input schema, as a test
unfoldable pub checked_input : Schema → Bool
checked_input schema =
    has_named_members schema
    && (list_all is_sound_member (members_of schema)
    && has_sound_payload schema
    && has_at_most_one (λ t. is_some t.http_prefix_headers) schema
    && has_at_most_one (λ t. t.http_query_params) schema
    && has_true_flags schema
    && has_sound_names schema
    && has_sound_http schema)

-- the member's kind has values here: not Float, Double or Member
abbrev pub is_writable : Schema → Bool
is_writable m = not (is_unwritable m.node.kind)

-- a checked input schema, as facts, one for each rule
pub record IsCheckedInput (schema : Schema) : Type 0 where
  pub structure : schema.node.kind ≡ kind.Structure
  pub cited : IsTrue (has_cited_nodes schema)
  pub names : AreDistinct (member_names schema)
  pub bound_once : All (λ m. IsTrue (is_bound_once m)) (members_of schema)
  pub writable : All (λ m. IsTrue (is_writable m)) (members_of schema)
  pub kinds : All (λ m. IsTrue (has_bound_kind m)) (members_of schema)
  pub elements : All (λ m. IsTrue (has_plain_elements m)) (members_of schema)
  pub payload : IsTrue (has_sound_payload schema)
  pub maps : IsTrue (has_sound_maps schema)
  pub unlike_names : IsTrue (has_sound_names schema)
  pub flags : IsTrue (has_true_flags schema)
  pub http : IsTrue (has_sound_http schema)
