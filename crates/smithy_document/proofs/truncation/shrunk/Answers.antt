use Rattle.smithy_document.proofs.Common.{arith}
use Rattle.smithy_document.proofs.Truncations.{ten_positive}
use Rattle.smithy_document.proofs.truncation.shrunk.Goals as goal

pub nonzero_div-result : goal.nonzero_div-result
nonzero_div-result c = let positive = ten_positive c.args.places in omega (arith, c.in-Some.ensures)
