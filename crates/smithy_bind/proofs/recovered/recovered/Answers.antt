use Rattle.smithy_json.specs.JsonView.{view}
use Rattle.smithy_job.specs.Recovering.{recovering}
use Rattle.smithy_bind.specs.Outcome.{recovered_to}
use Rattle.smithy_bind.proofs.InputLemmas.{job_answered}
use Rattle.smithy_bind.proofs.recovered.recovered.Goals as goal

pub returns : goal.returns
unfolding recovered_to
returns c = job_answered (recovering (view c.args.value.now)) c.in_ok-job.job c.job_told.result c.in_ok-job.ensures c.job_told.ensures
