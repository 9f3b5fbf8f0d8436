use Rattle.smithy_json.specs.JsonView.{view}
use Rattle.smithy_bind.proofs.ExplainLemmas.{routing_told}
use Rattle.smithy_bind.proofs.explaining.routing_told.Goals as goal

pub returns : goal.returns
returns c = routing_told (view c.args.value.now) c.in_ok-job.job c.operations_told.result c.in_ok-job.ensures c.operations_told.ensures
