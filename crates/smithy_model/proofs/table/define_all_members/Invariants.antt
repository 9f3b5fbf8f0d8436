use Rattle.std.proofs.Common.{map, drop}
use Rattle.smithy_model.specs.views.ModelView.{shape_view}
use Rattle.smithy_model.specs.Nodes.{member_nodes}
use Rattle.smithy_model.specs.views.NodeView.{spots_of}
use Rattle.smithy_model.proofs.FilledLemmas.{Filled}
use Rattle.smithy_model.proofs.table.define_all_members.Given as goal

abbrev pub invariant-loop-shape : goal.invariant-loop-shape
invariant-loop-shape l =
    Filled 0 l.first l.initial.table l.table
    (member_nodes (spots_of l.spots) (map shape_view (drop l.shape-index l.shapes)))
    (member_nodes (spots_of l.spots) (map shape_view l.shapes))
