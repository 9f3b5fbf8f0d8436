use Rattle.std.proofs.Common.{◌≡◌, map, drop}
use Rattle.smithy_model.specs.views.ModelView.{member_view}
use Rattle.smithy_model.specs.Nodes.{are_outside}
use Rattle.smithy_model.proofs.structure.are_outside.Given as goal

abbrev pub invariant-loop-member : goal.invariant-loop-member
invariant-loop-member l = are_outside (map member_view (drop l.member-index l.members)) ≡ are_outside (map member_view l.members)
