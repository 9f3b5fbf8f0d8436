use Rattle.std.proofs.Common.{rules}
use Rattle.smithy_job.proofs.ScalarLemmas.{integer_is}
use Rattle.smithy_job.proofs.scalar.integer_value.Goals as goal

pub returns-in-Ok : goal.returns-in-Ok
returns-in-Ok c = integer_is _ _ c.in-Ok.ensures.text (search rules)
