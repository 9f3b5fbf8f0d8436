use Rattle.smithy_router.proofs.Common.{length, parts_left}
use Rattle.smithy_router.proofs.search.+best_below.Given as goal

abbrev pub decreases-best_below : goal.decreases-best_below
decreases-best_below l = length (parts_left 47 l.rest)
