use Rattle.smithy_json.specs.JsonView.{view}
use Rattle.smithy_job.specs.Jobs.{job}
use Rattle.smithy_bind.proofs.ExplainLemmas.{request_told}
use Rattle.smithy_bind.proofs.explaining.request_told.Goals as goal

pub returns : goal.returns
returns c = request_told (job (view c.args.value.now)) c.in_ok-job.job _ c.in_ok-job.ensures c.input_told.ensures
