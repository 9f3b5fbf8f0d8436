use Rattle.smithy_json.specs.JsonView.{view}
use Rattle.smithy_job.specs.Answering.{answering}
use Rattle.smithy_bind.proofs.ExplainLemmas.{answering_told}
use Rattle.smithy_bind.proofs.explaining.answering_told.Goals as goal

pub returns : goal.returns
returns c = answering_told (answering (view c.args.value.now)) c.in_ok-job.job _ c.in_ok-job.ensures c.output_told.ensures
