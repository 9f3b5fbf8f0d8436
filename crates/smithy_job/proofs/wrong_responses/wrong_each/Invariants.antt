use Rattle.std.proofs.Common.{◌≡◌, map, drop}
use Rattle.smithy_json.specs.views.JsonView.{view}
use Rattle.smithy_model.specs.Wrong.{first_item}
use Rattle.smithy_job.specs.WrongJobs.{wrong_item}
use Rattle.smithy_job.proofs.wrong_responses.wrong_each.Given as goal

abbrev pub invariant-loop-position : goal.invariant-loop-position
invariant-loop-position l = first_item (wrong_item (view l.job)) l.position (map view (drop l.position l.items)) ≡ first_item (wrong_item (view l.job)) 0 (map view l.items)
