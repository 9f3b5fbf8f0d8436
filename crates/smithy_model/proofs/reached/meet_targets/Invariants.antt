use Rattle.std.proofs.Common.{◌≡◌, map, drop}
use Rattle.smithy_model.specs.Reached.{with_targets}
use Rattle.smithy_model.specs.views.ModelView.{member_view}
use Rattle.smithy_model.specs.views.NameView.{texts, ArePositions}
use Rattle.smithy_model.proofs.reached.meet_targets.Given as goal

abbrev pub invariant-loop-member : goal.invariant-loop-member
invariant-loop-member l = record {
  names : with_targets (texts l.names.items) (map member_view (drop l.member-index l.members)) ≡ with_targets (texts l.fn.names.items) (map member_view l.members);
  positions : ArePositions l.positions (texts l.names.items);
}
