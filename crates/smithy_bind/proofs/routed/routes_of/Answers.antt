use Rattle.smithy_job.specs.RoutingView.{operation_by}
use Rattle.smithy_bind.specs.views.RoutedView.{added_seen}
use Rattle.smithy_bind.proofs.NamedRoutes.{along-more}
use Rattle.smithy_bind.proofs.routed.routes_of.Goals as goal

pub loop-name-preserved : goal.loop-name-preserved
loop-name-preserved c =
    rw c.in_ok-add.ensures
    (along-more (operation_by c.args.operations.now) c.args.operations.now.names.now c.loop-name.name-index c.name-item.result (added_seen c.loop-name.added) _ _ c.loop-name-test.true c.name-item.is c.in_ok-operation.ensures
    c.loop-name.invariant)
