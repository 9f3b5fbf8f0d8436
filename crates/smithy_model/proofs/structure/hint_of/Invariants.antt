use Rattle.std.proofs.Common.{◌≡◌, map, drop}
use Rattle.smithy_model.specs.views.ModelView.{member_view}
use Rattle.smithy_model.specs.Nodes.{hint_of}
use Rattle.smithy_model.specs.views.NodeView.{spots_of}
use Rattle.smithy_model.proofs.structure.hint_of.Given as goal

abbrev pub invariant-loop-member : goal.invariant-loop-member
invariant-loop-member l = hint_of (spots_of l.spots) (map member_view (drop l.member-index l.members)) ≡ hint_of (spots_of l.spots) (map member_view l.members)
