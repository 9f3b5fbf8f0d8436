use Rattle.std.proofs.Common.{◌≡◌, drop, map}
use Rattle.smithy_recovery.specs.views.NameOrder.{named_seen, same_pairs}
use Rattle.smithy_recovery.proofs.same_facts.are_same.Given as goal

abbrev pub invariant-loop-i : goal.invariant-loop-i
invariant-loop-i l =
    same_pairs (map named_seen (drop l.i l.pairs)) (map named_seen (drop l.i l.others)) ≡ same_pairs (map named_seen l.pairs) (map named_seen l.others)
