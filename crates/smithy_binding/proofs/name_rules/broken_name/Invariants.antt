use Rattle.smithy_binding.proofs.Common.{◌≡◌, drop, by_members, header_rule, shown}
use Rattle.smithy_binding.proofs.name_rules.broken_name.Given as goal

abbrev pub invariant-loop-member : goal.invariant-loop-member
invariant-loop-member l = by_members header_rule (shown (drop l.member-index l.members)) ≡ by_members header_rule (shown l.members)
