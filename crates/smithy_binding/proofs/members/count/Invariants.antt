use Rattle.smithy_binding.proofs.Common.{◌≡◌, ◌+◌, ◌≤◌, drop, shown, count_of}
use Rattle.smithy_binding.proofs.members.count.Given as goal

abbrev pub invariant-loop-member : goal.invariant-loop-member
invariant-loop-member l = record {
  within : l.count ≤ l.member-index;
  count : l.count + count_of l.which (shown (drop l.member-index l.members)) ≡ count_of l.which (shown l.members);
}
