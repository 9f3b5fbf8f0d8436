use Rattle.smithy_document.proofs.Truncations.{too_high}
use Rattle.smithy_document.proofs.truncation.power.Goals as goal

pub returns-in-Err : goal.returns-in-Err
returns-in-Err c = too_high c.args.exponent c.in-Err.ensures
