use Rattle.smithy_json.specs.JsonView.{view}
use Rattle.smithy_job.specs.Gateway.{gateway}
use Rattle.smithy_bind.proofs.ExplainLemmas.{gateway_told}
use Rattle.smithy_bind.proofs.explaining.gateway_told.Goals as goal

pub returns : goal.returns
returns c = gateway_told (gateway (view c.args.value.now)) c.in_ok-job.job _ c.in_ok-job.ensures c.input_told.ensures
