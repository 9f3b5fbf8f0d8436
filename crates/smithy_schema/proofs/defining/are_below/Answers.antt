use Rattle.std.proofs.Common.{sym, ◌∙◌}
use Rattle.smithy_schema.proofs.PlaceLemmas.{below_step, above_step}
use Rattle.smithy_schema.proofs.defining.are_below.Goals as goal

pub returns-then-place-declared : goal.returns-then-place-declared
returns-then-place-declared c =
    sym (c.loop-place.invariant ∙ above_step c.args.declared c.args.places.now c.loop-place.place-index c.loop-place-test.true c.if-place-declared.true)

pub loop-place-preserved : goal.loop-place-preserved
loop-place-preserved c =
    c.loop-place.invariant ∙ below_step c.args.declared c.args.places.now c.loop-place.place-index c.loop-place-test.true c.if-place-declared.false
