use Rattle.std.proofs.Common.{rules}
use Rattle.smithy_job.specs.Jobs as jobs
use Rattle.smithy_job.proofs.ReceivedLemmas.{error-stands, schema-refused}
use Rattle.smithy_job.proofs.received.expected_error.Goals as goal

pub returns-in_err-placed : goal.returns-in_err-placed
returns-in_err-placed c = schema-refused jobs.error _ c.in_err-placed.field-0.0 c.from_residual.result (search rules) c.in_err-placed.ensures

pub returns : goal.returns
returns c = error-stands _ c.in_ok-placed.placed c.in_ok-placed.ensures
