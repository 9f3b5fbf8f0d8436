use Rattle.std.proofs.Common.{map}
use Rattle.smithy_model.specs.views.ModelView.{shape_view, shapes_view}
use Rattle.smithy_model.specs.views.NameView.{texts, ArePositions}
use Rattle.smithy_model.proofs.ReachedLemmas.{IsWalked}
use Rattle.smithy_model.proofs.reached.shapes_from.Given as goal

abbrev pub invariant-walk : goal.invariant-walk
invariant-walk l = record {
  so_far : IsWalked (shapes_view l.shapes) (texts l.roots) l.rest (map shape_view l.found.items) (texts l.names.items);
  located : ArePositions l.positions (texts l.names.items);
}

abbrev pub decreases-walk : goal.decreases-walk
decreases-walk l = l.rest
