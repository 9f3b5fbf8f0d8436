use Rattle.std.proofs.Common.{◌≡◌, drop}
use Rattle.smithy_model.specs.Reached.{with_names}
use Rattle.smithy_model.specs.views.NameView.{texts, ArePositions}
use Rattle.smithy_model.proofs.reached.meet_names.Given as goal

abbrev pub invariant-loop-name : goal.invariant-loop-name
invariant-loop-name l = record {
  names : with_names (texts l.names.items) (texts (drop l.name-index l.more)) ≡ with_names (texts l.fn.names.items) (texts l.more);
  positions : ArePositions l.positions (texts l.names.items);
}
