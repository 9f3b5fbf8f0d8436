use Rattle.smithy_wire.proofs.WholeLemmas.{not_in_range}
use Rattle.smithy_wire.proofs.whole_parts.not_negative.Goals as goal

pub returns-in-Err : goal.returns-in-Err
returns-in-Err c = not_in_range c.args.size c.in-Err.ensures
