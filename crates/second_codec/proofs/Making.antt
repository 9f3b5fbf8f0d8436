-- How the samples' schemas and inputs are made.
use Rattle.std.specs.Prelude.{ℕ, true, false, codes, List, [], ◌∷◌, ◌++◌, map, flat_map, Option, Some, None}
use Rattle.std.specs.List.{range_with_len}
use Rattle.std.specs.Option.{option_map_or}
use Rattle.smithy_ids.specs.declared.shape_type.ShapeType.{ShapeType}
use Rattle.smithy_ids.specs.declared.shape_type.ShapeType.TheVariants as kind
use Rattle.smithy_ids.specs.declared.payload_hint.PayloadHint.{PayloadHint}
use Rattle.smithy_schema.specs.Nodes.{Schema, Node, Traits, Table, no_traits, bare_node, member_at}
use Rattle.smithy_serde.specs.Values.{Label, Value, scalar, Write, writes_of, text, list, label_of}
use Rattle.smithy_serde.specs.Values as value
use Rattle.smithy_binding.specs.Placing.{Protocol, OmitFlags}
use Rattle.smithy_document.specs.JsonText.{json_text}

-- traits of members, each alone
abbrev pub label : Traits
label = record no_traits { http_label = true }

abbrev pub payload : Traits
payload = record no_traits { http_payload = true }

abbrev pub query_map : Traits
query_map = record no_traits { http_query_params = true }

abbrev pub response_code : Traits
response_code = record no_traits { http_response_code = true }

abbrev pub query : List ℕ → Traits
query name = record no_traits { http_query = Some name }

abbrev pub header : List ℕ → Traits
header name = record no_traits { http_header = Some name }

abbrev pub prefix_map : List ℕ → Traits
prefix_map prefix = record no_traits { http_prefix_headers = Some prefix }

abbrev pub with_http : List ℕ → List ℕ → Traits
with_http method uri = record no_traits { http = Some (record { method = method; uri = uri; code = 200 }) }

-- a member without parts
abbrev pub member : ℕ → List ℕ → ShapeType → Traits → Option Node
member index name k traits =
    Some (record (bare_node (codes "ex#In$" ++ name) k) { member_name = Some name; member_index = Some index; traits = traits })

-- the same with its parts at these places
abbrev pub with_element : ℕ → Option Node → Option Node
with_element place None = None
with_element place (Some n) = Some (record n { element = Some place })

abbrev pub with_entries : ℕ → ℕ → Option Node → Option Node
with_entries k v None = None
with_entries k v (Some n) = Some (record n { key = Some k; value = Some v })

abbrev pub with_target : ℕ → Option Node → Option Node
with_target place None = None
with_target place (Some n) = Some (record n { target = Some place })

-- the node of elements, keys and values that are texts
abbrev pub string_node : Option Node
string_node = Some (bare_node (codes "smithy.api#String") kind.String)

-- the node of elements that are whole numbers
abbrev pub integer_node : Option Node
integer_node = Some (bare_node (codes "smithy.api#Integer") kind.Integer)

-- a node of a structure whose members stand at these places
abbrev pub structure_node : Traits → List ℕ → Node
structure_node traits members = record (bare_node (codes "ex#In") kind.Structure) { members = members; traits = traits }

-- a structure whose members stand at the first places of the table, and more nodes behind them
abbrev pub structure_of : Traits → ℕ → Table → Schema
structure_of traits count table = record { table = table; node = structure_node traits (range_with_len 0 count) }

-- a schema without unbound members that says so, with its payload hint
abbrev pub flagged : PayloadHint → Schema → Schema
flagged hint schema = record { table = schema.table; node = record schema.node { has_no_body_members = true; hint = hint } }

-- the label of an element, a key or a value that is a text
abbrev pub item_label : Label
item_label = record { full_name = codes "smithy.api#String"; member_name = None; member_index = None; time_format = None }

-- that of one that is a whole number
abbrev pub integer_label : Label
integer_label = record item_label { full_name = codes "smithy.api#Integer" }

-- a write to a member, with the schema's own node
abbrev pub to : Schema → ℕ → Value → Write
to schema index v = record { label = option_map_or label_of (member_at schema index) item_label; value = v }

-- a write of a node with a name and no index
abbrev pub named : List ℕ → Value → Write
named name v = record { label = record { full_name = codes "ex#In$" ++ name; member_name = Some name; member_index = None; time_format = None }; value = v }

-- a list of these elements
abbrev pub elements : List Value → Value
elements vs = list (writes_of (map (λ v. record { label = item_label; value = v }) vs))

-- a list of texts
abbrev pub strings : List (List ℕ) → Value
strings texts = elements (map (λ t. scalar (text t)) texts)

-- a map from texts to texts
abbrev pub string_map : List (List ℕ × List ℕ) → Value
string_map entries = value.map (writes_of (flat_map (λ e. record { label = item_label; value = scalar (text e.0) } ∷ record { label = item_label; value = scalar (text e.1) } ∷ []) entries))

-- the node of a list whose elements stand at a place, and the label of such a list among the values of a map
abbrev pub list_node : ℕ → Node
list_node place = record (bare_node (codes "ex#List") kind.List) { element = Some place }

abbrev pub list_label : Label
list_label = record { full_name = codes "ex#List"; member_name = None; member_index = None; time_format = None }

-- a map from texts to lists of these elements
abbrev pub list_map : List (List ℕ × List Value) → Value
list_map entries =
    value.map (writes_of (flat_map (λ e. record { label = item_label; value = scalar (text e.0) } ∷ record { label = list_label; value = elements e.1 } ∷ []) entries))

-- the protocol of the samples
abbrev pub json : Protocol
json = record { content_type = codes "application/json"; text_of = json_text }

-- both default headers are kept
abbrev pub keep_all : OmitFlags
keep_all = record { content_type = false; content_length = false }
