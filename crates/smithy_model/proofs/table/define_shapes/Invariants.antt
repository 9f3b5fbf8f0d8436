use Rattle.std.proofs.Common.{◌+◌, map, drop, Some}
use Rattle.smithy_model.specs.Nodes.{shape_node}
use Rattle.smithy_model.specs.views.SpotView.{spot_view}
use Rattle.smithy_model.specs.views.NodeView.{spots_of}
use Rattle.smithy_model.proofs.FilledLemmas.{Filled}
use Rattle.smithy_model.proofs.table.define_shapes.Given as goal

abbrev pub invariant-loop-position : goal.invariant-loop-position
invariant-loop-position l =
    let ss = spots_of l.spots in
    Filled l.first (l.first + l.position) l.initial.table l.table
    (Some (map (shape_node ss) (map spot_view (drop l.position l.spots.spots.items))))
    (Some (map (shape_node ss) ss))
