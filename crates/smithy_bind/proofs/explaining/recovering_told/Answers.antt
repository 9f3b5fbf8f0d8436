use Rattle.smithy_json.specs.JsonView.{view}
use Rattle.smithy_job.specs.Recovering.{recovering}
use Rattle.smithy_bind.proofs.ExplainLemmas.{recovering_told}
use Rattle.smithy_bind.proofs.explaining.recovering_told.Goals as goal

pub returns : goal.returns
returns c = recovering_told (recovering (view c.args.value.now)) c.in_ok-job.job _ c.in_ok-job.ensures c.input_told.ensures
