use Rattle.std.proofs.Common.{◌≡◌, ◌-◌}
use Rattle.smithy_model.specs.WrongModels.{names_from, names_reached}
use Rattle.smithy_model.specs.views.ModelView.{shapes_view}
use Rattle.smithy_model.specs.views.NameView.{texts, ArePositions}
use Rattle.smithy_model.proofs.wrong_reached.names_reached.Given as goal

abbrev pub invariant-loop-step : goal.invariant-loop-step
invariant-loop-step l = record {
  so_far : names_from (l.steps - l.step) (shapes_view l.shapes) l.step (texts l.names.items) ≡ names_reached (shapes_view l.shapes) (texts l.roots);
  located : ArePositions l.positions (texts l.names.items);
}
