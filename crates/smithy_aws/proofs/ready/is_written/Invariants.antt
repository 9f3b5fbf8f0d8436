use Rattle.smithy_wire.proofs.Common.{◌≡◌}
use Rattle.smithy_schema.specs.References.{schema_of}
use Rattle.smithy_serde.specs.StoredValues.{listed, writes_in}
use Rattle.smithy_aws.specs.Ready.{is_written}
use Rattle.smithy_aws.proofs.ready.is_written.Given as goal

abbrev pub invariant-loop-node : goal.invariant-loop-node
invariant-loop-node l = is_written (schema_of l.schema) (listed l.table l.node-iterator) ≡ is_written (schema_of l.schema) (writes_in l.table l.writes)
