use Rattle.std.proofs.Common.{sym, ◌∙◌, ltb-false}
use Rattle.smithy_recovery.proofs.Ordered.{pairs_short}
use Rattle.smithy_recovery.proofs.same_facts.are_same.Goals as goal

pub returns-in_default : goal.returns-in_default
returns-in_default c =
    pairs_short c.args.pairs.now c.args.others.now c.loop-i.i c.loop-i-test.true (ltb-false _ _ (sym c.in_default.ensures.lookup.0)) ∙ c.loop-i.invariant
