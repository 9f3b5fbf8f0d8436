use Rattle.smithy_recovery.proofs.Knowing.{known_none}
use Rattle.smithy_recovery.proofs.known_shapes.no_shapes.Goals as goal

pub returns : goal.returns
returns c = λ t. known_none t c.new.result c.new.ensures.empty
