use Rattle.smithy_wire.proofs.Common.{◌≡◌}
use Rattle.smithy_wire.specs.views.ShownNames.{table_stands_from}
use Rattle.smithy_wire.specs.WireNames.{table_stands}
use Rattle.smithy_wire.proofs.standing.table_stands.Given as goal

abbrev pub invariant-loop-place : goal.invariant-loop-place
invariant-loop-place l = table_stands_from l.table l.place ≡ table_stands l.table
