use Rattle.std.proofs.Common.{◌≡◌, drop}
use Rattle.smithy_recovery.specs.views.NameOrder.{rise}
use Rattle.smithy_recovery.proofs.Ordered.{shown}
use Rattle.smithy_recovery.proofs.distinct.rise.Given as goal

abbrev pub invariant-loop-i : goal.invariant-loop-i
invariant-loop-i l = rise (shown (drop l.i l.names)) ≡ rise (shown l.names)
