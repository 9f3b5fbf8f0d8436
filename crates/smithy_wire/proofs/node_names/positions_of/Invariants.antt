use Rattle.smithy_schema.specs.References.{schema_of}
use Rattle.smithy_wire.proofs.FieldLemmas.{IsAdding}
use Rattle.smithy_wire.proofs.node_names.positions_of.Given as goal

abbrev pub invariant-loop-position : goal.invariant-loop-position
invariant-loop-position l = IsAdding (schema_of l.schema) l.position l.positions
