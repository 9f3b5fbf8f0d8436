use Rattle.smithy_router.proofs.Common.{sym, arith, length-take-le}
use Rattle.smithy_router.proofs.Growing.{first_cut}
use Rattle.smithy_router.proofs.tree.first_segments.Goals as goal

pub slice_bounds-result-end : goal.slice_bounds-result-end
slice_bounds-result-end c = sym (length-take-le 32 c.args.segments.now (omega (arith, c.if-segments-gt-DEEPEST.true)))

pub returns-then-segments-gt-DEEPEST : goal.returns-then-segments-gt-DEEPEST
returns-then-segments-gt-DEEPEST c = first_cut 32 c.args.segments.now
