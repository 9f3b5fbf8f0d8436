use Rattle.std.proofs.Common.{◌≡◌, length}
use Rattle.smithy_recovery.specs.SameFacts.{has_same_values}
use Rattle.smithy_recovery.specs.views.NameOrder.{left_seen, same_left}
use Rattle.smithy_recovery.proofs.same_facts.behind_front.Given as goal

abbrev pub invariant-loop-here : goal.invariant-loop-here
invariant-loop-here l = same_left l.here l.there ≡ has_same_values l.fn.headers l.fn.others

abbrev pub decreases-loop-here : goal.decreases-loop-here
decreases-loop-here l = length (left_seen l.here)
