use Rattle.smithy_json.specs.JsonView.{view}
use Rattle.smithy_bind.proofs.NamedRoutes.{routed_in_turn}
use Rattle.smithy_bind.proofs.routed.routed.Goals as goal

pub returns : goal.returns
returns c = routed_in_turn (view c.args.value.now) c.in_ok-job.job c.routing_told.result c.in_ok-job.ensures c.routing_told.ensures
