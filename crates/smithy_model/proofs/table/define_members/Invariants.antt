use Rattle.std.proofs.Common.{◌+◌, map, drop}
use Rattle.smithy_model.specs.views.ModelView.{member_view}
use Rattle.smithy_model.specs.Nodes.{member_nodes_from}
use Rattle.smithy_model.specs.views.NodeView.{spots_of}
use Rattle.smithy_model.proofs.FilledLemmas.{Filled}
use Rattle.smithy_model.proofs.table.define_members.Given as goal

abbrev pub invariant-loop-position : goal.invariant-loop-position
invariant-loop-position l =
    Filled l.first (l.first + l.position) l.initial.table l.table
    (member_nodes_from (spots_of l.spots) l.shape l.position (map member_view (drop l.position l.members)))
    (member_nodes_from (spots_of l.spots) l.shape 0 (map member_view l.members))
