use Rattle.smithy_wire.proofs.Common.{◌≡◌}
use Rattle.smithy_serde.specs.StoredValues.{writes_in, listed}
use Rattle.smithy_wire.specs.Misfits.{body_misfit}
use Rattle.smithy_wire.specs.Words.{schema_of}
use Rattle.smithy_wire.proofs.misfit.test_body.Given as goal

abbrev pub invariant-loop-node : goal.invariant-loop-node
invariant-loop-node l = body_misfit (schema_of l.schema) (listed l.table l.node-iterator) ≡ body_misfit (schema_of l.schema) (writes_in l.table l.input)
