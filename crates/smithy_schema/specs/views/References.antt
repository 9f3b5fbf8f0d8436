-- The node that a reference names, with its table.
use Rattle.std.specs.Prelude.{ℕ, [], unwrap_or, Option, Some, None}
use Rattle.smithy_ids.specs.declared.shape_type.ShapeType.TheVariants as kind
use Rattle.smithy_schema.specs.declared.schema_ref.SchemaRef.{SchemaRef}
use Rattle.smithy_schema.specs.declared.schema_ref.Spot.{Spot}
use Rattle.smithy_schema.specs.declared.schema_ref.TableRef.{TableRef}
use Rattle.smithy_schema.specs.declared.schema_ref.Spot.TheVariants as spot
use Rattle.smithy_schema.specs.Nodes.{Table, Node, Schema, node_at}
use Rattle.smithy_schema.specs.PreludeNodes.{prelude_node}

-- the node at a place; each reference names one that is there
abbrev pub node_in : Table → ℕ → Node
node_in table place = unwrap_or (node_at table place) (prelude_node kind.Structure)

abbrev pub schema_at : TableRef → Schema
schema_at r = record { table = r.table.now; node = node_in r.table.now r.index.0 }

abbrev pub schema_in : Spot → Schema
schema_in (spot.Table r) = schema_at r
schema_in (spot.Prelude shape_type) = record { table = []; node = prelude_node shape_type }

abbrev pub schema_of : SchemaRef → Schema
schema_of s = schema_in s.spot

abbrev pub index_in : Spot → Option ℕ
index_in (spot.Table r) = Some r.index.0
index_in (spot.Prelude shape_type) = None

-- the place of the node in its table, none of the prelude's
abbrev pub index_of : SchemaRef → Option ℕ
index_of s = index_in s.spot
