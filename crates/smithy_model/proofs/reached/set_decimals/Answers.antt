use Rattle.std.proofs.Common.{rules}
use Rattle.smithy_model.proofs.FloatLemmas.{next_decimal}
use Rattle.smithy_model.proofs.reached.set_decimals.Goals as goal

pub loop-shape-preserved : goal.loop-shape-preserved
loop-shape-preserved c =
    next_decimal c.args.shapes.now c.loop-shape.shapes c.loop-shape.shape-index c.shape-item.result _ c.loop-shape-test.true c.shape-item.is (search rules) c.loop-shape.invariant
