use Rattle.std.proofs.Common.{◌≡◌, map, drop}
use Rattle.smithy_json.specs.views.JsonView.{view}
use Rattle.smithy_model.specs.views.ModelView.{shapes_view}
use Rattle.smithy_job.specs.WrongJobs.{first_routed}
use Rattle.smithy_job.proofs.wrong_routing.first_routed.Given as goal

abbrev pub invariant-loop-position : goal.invariant-loop-position
invariant-loop-position l = first_routed (shapes_view l.shapes) l.position (map view (drop l.position l.names)) ≡ first_routed (shapes_view l.shapes) 0 (map view l.names)
