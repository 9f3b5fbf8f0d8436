use Rattle.std.proofs.Common.{◌≡◌, ◌+◌, map, drop}
use Rattle.smithy_model.specs.views.ModelView.{shape_view}
use Rattle.smithy_model.specs.Nodes.{member_count}
use Rattle.smithy_model.proofs.spots.member_count.Given as goal

abbrev pub invariant-loop-shape : goal.invariant-loop-shape
invariant-loop-shape l = l.count + member_count (map shape_view (drop l.shape-index l.shapes)) ≡ member_count (map shape_view l.shapes)
