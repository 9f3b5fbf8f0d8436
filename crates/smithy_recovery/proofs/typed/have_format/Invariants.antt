use Rattle.std.proofs.Common.{◌≡◌}
use Rattle.smithy_serde.specs.StoredValues.{listed, writes_in}
use Rattle.smithy_recovery.specs.TypedWrites.{have_format}
use Rattle.smithy_recovery.proofs.typed.have_format.Given as goal

abbrev pub invariant-loop-node : goal.invariant-loop-node
invariant-loop-node l = have_format l.format (listed l.table l.node-iterator) ≡ have_format l.format (writes_in l.table l.elements)
