use Rattle.smithy_model.specs.views.ModelView.{shapes_view}
use Rattle.smithy_job.proofs.RoutedPlaces.{routed_found, routed_fits}
use Rattle.smithy_job.proofs.wrong_routing.first_routed.Goals as goal

pub returns-in-Some : goal.returns-in-Some
returns-in-Some c =
    routed_found (shapes_view c.args.shapes.now) c.args.names.now c.loop-position.position c.index-names-position.result _ _ c.loop-position-test.true c.index-names-position.is
    (rw c.in-Some.is at c.in_ok-wrong.ensures) c.loop-position.invariant

pub loop-position-preserved : goal.loop-position-preserved
loop-position-preserved c =
    routed_fits (shapes_view c.args.shapes.now) c.args.names.now c.loop-position.position c.index-names-position.result _ c.loop-position-test.true c.index-names-position.is
    (rw c.in_default.is at c.in_ok-wrong.ensures) c.loop-position.invariant
