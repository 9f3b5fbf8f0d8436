use Rattle.smithy_router.proofs.Found.{some_is_best as the_law}
use Rattle.smithy_router.proofs.laws.some_is_best.Goals as goal

pub returns : goal.returns
returns c = the_law
