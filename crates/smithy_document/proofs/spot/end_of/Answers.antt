use Rattle.smithy_document.proofs.Common.{arith, view}
use Rattle.smithy_document.proofs.PathLemmas.{past_items}
use Rattle.smithy_document.proofs.spot.end_of.Goals as goal

pub returns-in-None : goal.returns-in-None
returns-in-None c = λ i past. rw c.in-None.is (past_items (view c.args.container.now) i (omega (arith, c.part_count.ensures, past)))
