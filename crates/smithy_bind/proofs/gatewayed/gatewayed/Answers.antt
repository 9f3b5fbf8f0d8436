use Rattle.smithy_json.specs.JsonView.{view}
use Rattle.smithy_job.specs.Gateway.{gateway}
use Rattle.smithy_bind.specs.Outcome.{gatewayed_to}
use Rattle.smithy_bind.proofs.GatewayLemmas.{gateway_answered}
use Rattle.smithy_bind.proofs.gatewayed.gatewayed.Goals as goal

pub returns : goal.returns
unfolding gatewayed_to
returns c = gateway_answered (gateway (view c.args.value.now)) c.in_ok-job.job c.job_told.result c.in_ok-job.ensures c.job_told.ensures
