-- What a schema is: a node of a table, in which each place holds a node or nothing yet.
use Rattle.std.specs.Prelude.{ℕ, Bool, true, false, ◌&&◌, ◌||◌, List, [], slice_get, filter_map, position, is_some, unwrap_or, option_map, option_and_then, Option, Some, None}
use Rattle.std.specs.Option.{option_flatten, option_map_or, option_or}
use Rattle.smithy_ids.specs.declared.traits.TimestampFormat.{TimestampFormat}
use Rattle.smithy_types.specs.Texts.{same_text}
use Rattle.smithy_types.specs.Documents.{Document}
use Rattle.smithy_ids.specs.declared.shape_type.ShapeType.{ShapeType}
use Rattle.smithy_ids.specs.declared.payload_hint.PayloadHint.{PayloadHint}
use Rattle.smithy_ids.specs.declared.payload_hint.PayloadHint.TheVariants.{Unknown}
pub use Rattle.smithy_ids.specs.Traits.{Http, Namespace}

-- what a trait without a field of its own holds
pub data TraitValue : Type 0 where
  annotation : TraitValue
  string_trait : List ℕ → TraitValue
  document_trait : Document → TraitValue

-- Traits. The first eleven say where a member stands, and how (Smithy, HTTP protocol bindings); the definitions look at no other.
pub record Traits : Type 0 where
  pub http : Option Http
  pub http_header : Option (List ℕ)
  pub http_prefix_headers : Option (List ℕ)
  pub http_query : Option (List ℕ)
  pub http_query_params : Bool
  pub http_label : Bool
  pub http_payload : Bool
  pub http_response_code : Bool
  pub media_type : Option (List ℕ)
  pub timestamp_format : Option TimestampFormat
  pub streaming : Bool
  pub json_name : Option (List ℕ)
  pub xml_name : Option (List ℕ)
  pub xml_namespace : Option Namespace
  pub xml_attribute : Bool
  pub xml_flattened : Bool
  pub xml_unwrapped_output : Bool
  pub sensitive : Bool
  pub host_label : Bool
  pub event_header : Bool
  pub event_payload : Bool
  -- further traits by their full names, if a map of them was given: each name once
  pub others : Option (List (List ℕ × TraitValue))

abbrev pub no_traits : Traits
no_traits = record {
  http = None;
  http_header = None;
  http_prefix_headers = None;
  http_query = None;
  http_query_params = false;
  http_label = false;
  http_payload = false;
  http_response_code = false;
  media_type = None;
  timestamp_format = None;
  streaming = false;
  json_name = None;
  xml_name = None;
  xml_namespace = None;
  xml_attribute = false;
  xml_flattened = false;
  xml_unwrapped_output = false;
  sensitive = false;
  host_label = false;
  event_header = false;
  event_payload = false;
  others = None;
}

-- a node; its places are those of its own table
pub record Node : Type 0 where
  pub full_name : List ℕ
  pub kind : ShapeType
  pub member_name : Option (List ℕ)
  -- a shape's name before it was renamed
  pub original_name : Option (List ℕ)
  pub member_index : Option ℕ
  pub target : Option ℕ
  pub members : List ℕ
  pub element : Option ℕ
  pub key : Option ℕ
  pub value : Option ℕ
  pub traits : Traits
  pub has_no_body_members : Bool
  pub hint : PayloadHint

-- a node of this name and kind, with nothing else
abbrev pub bare_node : List ℕ → ShapeType → Node
bare_node name kind = record {
  full_name = name;
  kind = kind;
  member_name = None;
  original_name = None;
  member_index = None;
  target = None;
  members = [];
  element = None;
  key = None;
  value = None;
  traits = no_traits;
  has_no_body_members = false;
  hint = Unknown;
}

-- nodes and holes, which are places that are only declared
abbrev pub Table : Type 0
Table = List (Option Node)

-- a node with the table that it stands in
pub record Schema : Type 0 where
  pub table : Table
  pub node : Node

-- the format of its timestamps
abbrev pub time_format : Schema → Option TimestampFormat
time_format schema = schema.node.traits.timestamp_format

-- the node at a place; a hole counts as none
abbrev pub node_at : Table → ℕ → Option Node
node_at table place = option_flatten (slice_get table place)

-- the node at a place with its table
abbrev pub at_place : Table → ℕ → Option Schema
at_place table place = option_map (λ n. record { table = table; node = n }) (node_at table place)

-- what stands at a place that the node may have
abbrev pub cited : Schema → Option ℕ → Option Schema
cited schema place = option_and_then (at_place schema.table) place

abbrev pub element_of : Schema → Option Schema
element_of schema = cited schema schema.node.element

abbrev pub key_of : Schema → Option Schema
key_of schema = cited schema schema.node.key

abbrev pub value_of : Schema → Option Schema
value_of schema = cited schema schema.node.value

-- the place, where there is one, holds a node
abbrev pub holds_node : Schema → Option ℕ → Bool
holds_node schema place = option_map_or (λ p. is_some (at_place schema.table p)) place true

-- the member's element, key, value and target, as far as it has them, are defined
abbrev pub cites_nodes : Schema → Bool
cites_nodes m = holds_node m m.node.element && holds_node m m.node.key && holds_node m m.node.value && holds_node m m.node.target

-- the elements of a list, else the values of a map
abbrev pub element_or_value_of : Schema → Option Schema
element_or_value_of schema = cited schema (option_or schema.node.element schema.node.value)

-- the target's node where there is one, else the node itself
abbrev pub shape : Schema → Schema
shape schema = unwrap_or (cited schema schema.node.target) schema

-- the member at a position, if there is one
abbrev pub member_at : Schema → ℕ → Option Schema
member_at schema i = cited schema (slice_get schema.node.members i)

-- the members in order, without holes
abbrev pub members_of : Schema → List Schema
members_of schema = filter_map (at_place schema.table) schema.node.members

abbrev pub has_name : List ℕ → Schema → Bool
has_name name schema = option_map_or (same_text name) schema.node.member_name false

-- the name in messages, and nothing where the node has none
abbrev pub name_of : Schema → List ℕ
name_of schema = unwrap_or schema.node.member_name []

-- the first position of a member with this name
abbrev pub position_of_name : Schema → List ℕ → Option ℕ
position_of_name schema name =
    position (λ place. option_map_or (has_name name) (at_place schema.table place) false) schema.node.members

-- the first member with this name
abbrev pub member_named : Schema → List ℕ → Option Schema
member_named schema name = option_and_then (member_at schema) (position_of_name schema name)

-- where a request member stands (Smithy, HTTP protocol bindings)
pub data Binding : Type 0 where
  to_header to_prefix to_query : List ℕ → Binding
  to_query_map to_label to_payload to_body : Binding

-- the first trait that there is says it
abbrev pub binding_at : Option (List ℕ) → Option (List ℕ) → Option (List ℕ) → Bool → Bool → Bool → Binding
binding_at (Some name) prefix query query_map label payload = to_header name
binding_at None (Some prefix) query query_map label payload = to_prefix prefix
binding_at None None (Some name) query_map label payload = to_query name
binding_at None None None true label payload = to_query_map
binding_at None None None false true payload = to_label
binding_at None None None false false true = to_payload
binding_at None None None false false false = to_body

abbrev pub binding_of : Schema → Binding
binding_of schema =
    let t = schema.node.traits in
    binding_at t.http_header t.http_prefix_headers t.http_query t.http_query_params t.http_label t.http_payload

abbrev pub is_outside_body : Binding → Bool
is_outside_body to_body = false
is_outside_body _ = true

-- a request member that stands outside the body
abbrev pub is_bound : Schema → Bool
is_bound schema = is_outside_body (binding_of schema)

-- a response member that stands outside the body
abbrev pub is_response_bound : Schema → Bool
is_response_bound schema =
    let t = schema.node.traits in
    is_some t.http_header || is_some t.http_prefix_headers || t.http_response_code || t.http_payload
