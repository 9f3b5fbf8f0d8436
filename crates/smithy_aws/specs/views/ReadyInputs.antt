-- The writes of an input that was made ready.
use Rattle.std.specs.Prelude.{Some, option_map, Result}
use Rattle.smithy_schema.specs.Nodes.{Schema}
use Rattle.smithy_schema.specs.References.{schema_of}
use Rattle.smithy_schema.specs.declared.schema_ref.SchemaRef.{SchemaRef}
use Rattle.smithy_serde.specs.StructValues.{members_of, node_of}
use Rattle.smithy_serde.specs.Values.{Writes}
use Rattle.smithy_serde.specs.Writing.{Seen, Tells}
use Rattle.smithy_serde.specs.declared.error.SerdeError.{SerdeError}
use Rattle.smithy_aws.specs.Ready.{behind_empty}
use Rattle.smithy_aws.specs.declared.ready.ReadyInput.{ReadyInput}

-- those that it came with, without nulls
abbrev pub present_writes : ReadyInput → Writes
present_writes r = members_of r.present

-- and all of them
abbrev pub ready_writes : ReadyInput → Writes
ready_writes r = behind_empty (option_map schema_of r.empty) (present_writes r)

-- the node of its structure
abbrev pub ready_node : ReadyInput → Schema
ready_node r = node_of r.present

-- an empty structure at a node, and then these writes, are told
abbrev pub TellsBehind : {U : Type 0} → SchemaRef → Writes → Seen → Seen → Result U SerdeError → Type 0
TellsBehind node ws old new result = Tells (behind_empty (Some (schema_of node)) ws) old new result
