use Rattle.smithy_binding.proofs.Common.{◌≡◌, drop, by_members, prefix_map_rule, shown, texts_shown}
use Rattle.smithy_binding.proofs.name_rules.broken_prefix.Given as goal

abbrev pub invariant-loop-member : goal.invariant-loop-member
invariant-loop-member l =
    by_members (prefix_map_rule (texts_shown l.headers)) (shown (drop l.member-index l.members)) ≡ by_members (prefix_map_rule (texts_shown l.headers)) (shown l.members)
