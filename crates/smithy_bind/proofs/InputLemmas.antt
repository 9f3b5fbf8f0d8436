-- What is told of the input of a request.
use Rattle.std.proofs.Common.{◌≡◌, refl, subst, Option, Some, None, Result}
use Rattle.smithy_model.specs.declared.error.JobError.{JobError}
use Rattle.smithy_job.specs.Recovering as jobs
use Rattle.smithy_job.specs.RecoveringView.{IsRecovering}
use Rattle.smithy_job.specs.Tables.{Has}
use Rattle.smithy_job.specs.declared.recovering.Recovering.{Recovering}
use Rattle.smithy_bind.specs.Outcome.{recovered_job}
use Rattle.smithy_bind.specs.Told.{outcome_of}
use Rattle.smithy_bind.specs.declared.told.Answer.{Answer}
use Rattle.smithy_bind.specs.views.AnswerView.{Gives}
use Rattle.smithy_bind.specs.views.RecoveredView.{TellsInput}

-- the job whose request is read back is the one that was read
pub job_answered : (o : Option jobs.Recovering) (stored : Recovering) (result : Result Answer JobError) → Has o (IsRecovering stored) → TellsInput stored result → Gives (outcome_of recovered_job o) result
job_answered (Some is) stored result has told =
    let job : jobs.Recovering = record { request = stored.request; schema = is.schema; endpoint = stored.endpoint.now; omit = stored.omit } in
    let same : job ≡ is = rw (has.request, has.endpoint, has.omit) refl in
    subst (λ (j : jobs.Recovering). Gives (recovered_job j) result) same (told is.schema has.schema)
job_answered None stored result has told = absurd has
