use Rattle.smithy_binding.proofs.Common.{◌≡◌, drop, shown, payload_in}
use Rattle.smithy_binding.proofs.members.payload_kind.Given as goal

abbrev pub invariant-loop-member : goal.invariant-loop-member
invariant-loop-member l = payload_in l.way (shown (drop l.member-index l.members)) ≡ payload_in l.way (shown l.members)
