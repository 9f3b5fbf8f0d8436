use Rattle.std.proofs.Common.{rules}
use Rattle.smithy_job.specs.Jobs as jobs
use Rattle.smithy_job.proofs.ReceivedLemmas.{errors-stand, errors-refused}
use Rattle.smithy_job.proofs.received.expected_coded.Goals as goal

pub returns-in_err-placed : goal.returns-in_err-placed
returns-in_err-placed c = errors-refused (jobs.coded c.args.code.now) _ c.in_err-placed.field-0.0 c.from_residual.result (search rules) c.in_err-placed.ensures

pub returns : goal.returns
returns c = errors-stand c.args.code _ c.in_ok-placed.placed c.in_ok-placed.ensures
