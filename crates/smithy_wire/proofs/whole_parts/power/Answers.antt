use Rattle.smithy_document.proofs.Truncations.{too_high}
use Rattle.smithy_wire.proofs.whole_parts.power.Goals as goal

pub returns-in-Err : goal.returns-in-Err
returns-in-Err c = too_high c.args.exponent c.in-Err.ensures
