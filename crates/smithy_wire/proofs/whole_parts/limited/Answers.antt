use Rattle.smithy_wire.proofs.WholeLemmas.{limit_is}
use Rattle.smithy_wire.proofs.whole_parts.limited.Goals as goal

pub returns-in-Err : goal.returns-in-Err
returns-in-Err c = limit_is c.args.place c.args.len c.in-Err.ensures c.ranges.len.fits
