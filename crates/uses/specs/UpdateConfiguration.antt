-- The model of Amazon MQ's `UpdateConfiguration`, with three members of its output and one of its errors, and its inputs.
use Rattle.std.specs.Prelude.{ℕ, codes, true, List, [], ◌∷◌, Some, Result}
use Rattle.smithy_http.specs.Requests.{Request}
use Rattle.smithy_ids.specs.declared.shape_type.ShapeType.{ShapeType}
use Rattle.smithy_ids.specs.declared.shape_type.ShapeType.TheVariants as kind
use Rattle.smithy_ids.specs.declared.traits.TimestampFormat.TheVariants as time
use Rattle.smithy_schema.specs.Nodes.{Node, Table, Schema, no_traits, bare_node}
use Rattle.smithy_serde.specs.Values.{Scalar, scalar, text, Writes, no_writes, write, label_of}
use Rattle.smithy_binding.specs.Faults.{Fault}
use Rattle.smithy_aws.specs.Requests.{rest_json1_request}
use Rattle.uses.specs.Answering.{keep_all}

-- a member without traits
abbrev pub member : List ℕ → ℕ → List ℕ → ShapeType → Node
member shape index name k = record (bare_node shape k) { member_name = Some name; member_index = Some index }

-- a text that has this name in JSON (Smithy, jsonName trait)
abbrev pub field : List ℕ → ℕ → List ℕ → List ℕ → Node
field shape index name json = record (member shape index name kind.String) { traits = record no_traits { json_name = Some json } }

abbrev pub input_name : List ℕ
input_name = codes "com.amazonaws.mq#UpdateConfigurationRequest"

abbrev pub output_name : List ℕ
output_name = codes "com.amazonaws.mq#UpdateConfigurationResponse"

abbrev pub error_name : List ℕ
error_name = codes "com.amazonaws.mq#NotFoundException"

abbrev pub id_node : Node
id_node = record (member input_name 0 (codes "ConfigurationId") kind.String) { traits = record no_traits { http_label = true } }

abbrev pub data_node : Node
data_node = field input_name 1 (codes "Data") (codes "data")

-- the input of the operation (Smithy, http trait)
abbrev pub input_node : Node
input_node = record (bare_node input_name kind.Structure) {
  members = 0 ∷ 1 ∷ [];
  traits = record no_traits { http = Some (record { method = codes "PUT"; uri = codes "/v1/configurations/{ConfigurationId}"; code = 200 }) };
}

-- a time that is a text (Smithy, timestampFormat trait)
abbrev pub created_node : Node
created_node = record (member output_name 0 (codes "Created") kind.Timestamp) {
  traits = record no_traits { json_name = Some (codes "created"); timestamp_format = Some time.DateTime };
}

abbrev pub output_node : Node
output_node = record (bare_node output_name kind.Structure) { members = 3 ∷ 4 ∷ 5 ∷ [] }

abbrev pub error_node : Node
error_node = record (bare_node error_name kind.Structure) { members = 7 ∷ 8 ∷ [] }

abbrev pub table : Table
table =
    Some id_node ∷ Some data_node ∷ Some input_node
    ∷ Some created_node ∷ Some (field output_name 1 (codes "Id") (codes "id")) ∷ Some (field output_name 2 (codes "Name") (codes "name")) ∷ Some output_node
    ∷ Some (field error_name 0 (codes "ErrorAttribute") (codes "errorAttribute")) ∷ Some (field error_name 1 (codes "Message") (codes "message")) ∷ Some error_node ∷ []

-- a node with its table
abbrev pub schema_at : Node → Schema
schema_at node = record { table = table; node = node }

-- a member's write before others
abbrev pub at : Node → Scalar → Writes → Writes
at node x ws = write (label_of (schema_at node)) (scalar x) ws

-- the writes of an input: the configuration, and its new data
abbrev pub input : List ℕ → List ℕ → Writes
input id content = at id_node (text id) (at data_node (text content) no_writes)

-- the request of such an input (Smithy, AWS restJson1 protocol)
abbrev pub update_request : List ℕ → List ℕ → Result Request Fault
update_request id content = rest_json1_request (schema_at input_node) (input id content) [] keep_all
