use Rattle.std.proofs.Common.{◌≡◌, drop}
use Rattle.smithy_model.specs.Wrong.{first_in}
use Rattle.smithy_model.specs.WrongModels.{wrong_at}
use Rattle.smithy_model.specs.views.ModelView.{shapes_view}
use Rattle.smithy_model.specs.views.NameView.{texts}
use Rattle.smithy_model.proofs.wrong_reached.wrong_among.Given as goal

abbrev pub invariant-loop-name : goal.invariant-loop-name
invariant-loop-name l = first_in (wrong_at (shapes_view l.shapes)) (texts (drop l.name-index l.names)) ≡ first_in (wrong_at (shapes_view l.shapes)) (texts l.names)
