use Rattle.std.proofs.Common.{◌≡◌, map, drop}
use Rattle.smithy_json.specs.views.JsonView.{view}
use Rattle.smithy_model.specs.Wrong.{first_item}
use Rattle.smithy_model.specs.WrongModels.{wrong_target}
use Rattle.smithy_model.proofs.wrong_operation.wrong_target_in.Given as goal

abbrev pub invariant-loop-position : goal.invariant-loop-position
invariant-loop-position l = first_item wrong_target l.position (map view (drop l.position l.items)) ≡ first_item wrong_target 0 (map view l.items)
