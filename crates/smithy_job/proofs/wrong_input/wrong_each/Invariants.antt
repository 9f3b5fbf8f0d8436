use Rattle.std.proofs.Common.{◌≡◌, map, drop}
use Rattle.smithy_json.specs.views.JsonView.{view}
use Rattle.smithy_model.specs.Wrong.{first_item}
use Rattle.smithy_job.specs.WrongInputs.{wrong_writes}
use Rattle.smithy_job.proofs.wrong_input.wrong_each.Given as goal

abbrev pub invariant-loop-position : goal.invariant-loop-position
invariant-loop-position l = first_item wrong_writes l.position (map view (drop l.position l.items)) ≡ first_item wrong_writes 0 (map view l.items)
