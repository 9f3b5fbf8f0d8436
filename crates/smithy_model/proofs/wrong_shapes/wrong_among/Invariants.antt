use Rattle.std.proofs.Common.{◌≡◌, drop}
use Rattle.smithy_json.specs.views.JsonView.{entries}
use Rattle.smithy_model.specs.Wrong.{first_in}
use Rattle.smithy_model.specs.WrongModels.{wrong_named}
use Rattle.smithy_model.specs.views.ModelView.{shapes_view}
use Rattle.smithy_model.proofs.wrong_shapes.wrong_among.Given as goal

abbrev pub invariant-loop-member : goal.invariant-loop-member
invariant-loop-member l = first_in (wrong_named (shapes_view l.shapes)) (entries (drop l.member-index l.members)) ≡ first_in (wrong_named (shapes_view l.shapes)) (entries l.members)
