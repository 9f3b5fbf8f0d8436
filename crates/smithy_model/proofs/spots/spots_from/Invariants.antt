use Rattle.std.proofs.Common.{◌≡◌, ◌++◌, map, drop}
use Rattle.smithy_model.specs.views.ModelView.{shape_view}
use Rattle.smithy_model.specs.Nodes.{spots_from}
use Rattle.smithy_model.specs.views.SpotView.{spot_view}
use Rattle.smithy_model.proofs.spots.spots_from.Given as goal

abbrev pub invariant-loop-shape : goal.invariant-loop-shape
invariant-loop-shape l =
    map spot_view l.spots.items ++ spots_from l.first l.next (map shape_view (drop l.shape-index l.shapes)) ≡ spots_from 0 l.index (map shape_view l.shapes)
