use Rattle.smithy_binding.proofs.Common.{◌≡◌, drop, by_members, shown, member_rule_in}
use Rattle.smithy_binding.proofs.member_rules.broken_member.Given as goal

abbrev pub invariant-loop-member : goal.invariant-loop-member
invariant-loop-member l = by_members (member_rule_in l.way) (shown (drop l.member-index l.members)) ≡ by_members (member_rule_in l.way) (shown l.members)
