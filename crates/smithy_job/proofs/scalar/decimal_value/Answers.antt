use Rattle.std.proofs.Common.{rules}
use Rattle.smithy_job.proofs.ScalarLemmas.{decimal_is}
use Rattle.smithy_job.proofs.scalar.decimal_value.Goals as goal

pub returns-in-Ok : goal.returns-in-Ok
returns-in-Ok c = decimal_is _ _ c.in-Ok.ensures.text (search rules)
