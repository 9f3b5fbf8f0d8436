use Rattle.smithy_wire.proofs.Common.{◌≡◌}
use Rattle.smithy_wire.proofs.columns.fill_all.Given as goal

abbrev pub invariant-loop-place : goal.invariant-loop-place
invariant-loop-place g l = l.column.table ≡ l.initial.column.table
