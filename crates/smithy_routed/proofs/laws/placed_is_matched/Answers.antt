use Rattle.smithy_routed.proofs.Matched.{placed_is_matched as the_law}
use Rattle.smithy_routed.proofs.laws.placed_is_matched.Goals as goal

pub returns : goal.returns
returns c = the_law
