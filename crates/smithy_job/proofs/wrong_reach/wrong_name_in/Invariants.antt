use Rattle.std.proofs.Common.{◌≡◌, drop}
use Rattle.smithy_model.specs.Wrong.{first_item}
use Rattle.smithy_model.specs.WrongModels.{wrong_name}
use Rattle.smithy_model.specs.views.ModelView.{shapes_view}
use Rattle.smithy_model.specs.views.NameView.{texts}
use Rattle.smithy_job.proofs.wrong_reach.wrong_name_in.Given as goal

abbrev pub invariant-loop-position : goal.invariant-loop-position
invariant-loop-position l =
    first_item (wrong_name (shapes_view l.shapes)) l.position (texts (drop l.position l.names)) ≡ first_item (wrong_name (shapes_view l.shapes)) 0 (texts l.names)
