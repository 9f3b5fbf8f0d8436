use Rattle.std.proofs.Common.{◌≡◌, drop}
use Rattle.smithy_json.specs.views.JsonView.{view}
use Rattle.smithy_model.specs.Wrong.{first_in}
use Rattle.smithy_job.specs.WrongJobs.{wrong_part}
use Rattle.smithy_job.proofs.wrong_job.first_wrong.Given as goal

abbrev pub invariant-loop-part : goal.invariant-loop-part
invariant-loop-part l = first_in (wrong_part (view l.job)) (drop l.part-index l.parts) ≡ first_in (wrong_part (view l.job)) l.parts
