use Rattle.smithy_job.proofs.ScalarLemmas.{big_decimal_is}
use Rattle.smithy_job.proofs.scalar.big_decimal.Goals as goal

pub returns-in-Ok : goal.returns-in-Ok
returns-in-Ok c = big_decimal_is _ _ c.in-Ok.ensures.text
