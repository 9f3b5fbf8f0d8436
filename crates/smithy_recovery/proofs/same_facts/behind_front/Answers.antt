use Rattle.std.proofs.Common.{sym, ◌∙◌}
use Rattle.smithy_recovery.specs.SameFacts.{has_same_values}
use Rattle.smithy_recovery.proofs.Ordered.{first_same}
use Rattle.smithy_recovery.proofs.same_facts.behind_front.Goals as goal

pub loop-here-preserved : goal.loop-here-preserved
loop-here-preserved c =
    let first = sym c.has_same_first.ensures ∙ c.loop-here-test.true in
    (λ i. has_same_values (c.left_of-next.ensures i) (c.left_of-other.ensures i)) ∙ first_same c.loop-here.here c.loop-here.there first ∙ c.loop-here.invariant
