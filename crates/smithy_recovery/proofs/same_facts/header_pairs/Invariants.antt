use Rattle.std.proofs.Common.{◌≡◌, ◌++◌, map}
use Rattle.smithy_recovery.specs.views.NameOrder.{named_seen, left_seen}
use Rattle.smithy_recovery.proofs.same_facts.header_pairs.Given as goal

abbrev pub invariant-loop-name : goal.invariant-loop-name
invariant-loop-name l = map named_seen l.pairs.items ++ l.name-iterator ≡ left_seen l.fn.headers
