use Rattle.smithy_wire.proofs.WholeLemmas.{not_in_range_below}
use Rattle.smithy_wire.proofs.whole_parts.negated.Goals as goal

pub returns-in-Err : goal.returns-in-Err
returns-in-Err c = not_in_range_below c.args.size c.in-Err.ensures
