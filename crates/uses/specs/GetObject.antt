-- The model of `GET /{Bucket}/{Key+}`, and its inputs.
use Rattle.std.specs.Prelude.{ℕ, ℤ, codes, true, List, [], ◌∷◌, Some}
use Rattle.smithy_ids.specs.declared.shape_type.ShapeType.{ShapeType}
use Rattle.smithy_ids.specs.declared.shape_type.ShapeType.TheVariants as kind
use Rattle.smithy_schema.specs.Nodes.{Node, Table, Schema, no_traits, bare_node}
use Rattle.smithy_serde.specs.Values.{Scalar, scalar, whole, integer, text, Writes, no_writes, write, label_of}

-- a member without traits
abbrev pub member : ℕ → List ℕ → ShapeType → Node
member index name k =
    record (bare_node (codes "ex#GetIn") k) { member_name = Some name; member_index = Some index }

abbrev pub bucket_node : Node
bucket_node = record (member 0 (codes "Bucket") kind.String) { traits = record no_traits { http_label = true } }

abbrev pub key_node : Node
key_node = record (member 1 (codes "Key") kind.String) { traits = record no_traits { http_label = true } }

abbrev pub max_node : Node
max_node = record (member 2 (codes "Max") kind.Integer) { traits = record no_traits { http_query = Some (codes "max") } }

abbrev pub id_node : Node
id_node = record (member 3 (codes "Id") kind.Integer) { traits = record no_traits { http_header = Some (codes "X-Id") } }

-- the input of the operation (Smithy, http trait)
abbrev pub input_node : Node
input_node = record (bare_node (codes "ex#GetIn") kind.Structure) {
  members = 0 ∷ 1 ∷ 2 ∷ 3 ∷ [];
  traits = record no_traits { http = Some (record { method = codes "GET"; uri = codes "/{Bucket}/{Key+}"; code = 200 }) };
}

abbrev pub table : Table
table = Some bucket_node ∷ Some key_node ∷ Some max_node ∷ Some id_node ∷ Some input_node ∷ []

-- a node with its table
abbrev pub schema_at : Node → Schema
schema_at node = record { table = table; node = node }

-- a member's write before others
abbrev pub at : Node → Scalar → Writes → Writes
at node x ws = write (label_of (schema_at node)) (scalar x) ws

-- the writes of an input, in the order of the members
abbrev pub input : List ℕ → List ℕ → ℤ → ℤ → Writes
input bucket key max id =
    at bucket_node (text bucket) (at key_node (text key) (at max_node (whole integer max) (at id_node (whole integer id) no_writes)))
