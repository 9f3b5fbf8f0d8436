use Rattle.smithy_wire.proofs.Common.{◌≡◌}
use Rattle.smithy_schema.specs.References.{schema_of}
use Rattle.smithy_aws.proofs.PayloadSteps.{payload_from}
use Rattle.smithy_aws.proofs.payload.payload_of.Given as goal

abbrev pub invariant-loop-position : goal.invariant-loop-position
invariant-loop-position l = payload_from (schema_of l.schema) l.position ≡ payload_from (schema_of l.schema) 0
