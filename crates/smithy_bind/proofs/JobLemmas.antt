-- What is told of a job, from its parts.
use Rattle.std.proofs.Common.{◌≡◌, refl, ap, subst, ◌∙◌, Option, Some, None, Result}
use Rattle.smithy_schema.specs.Nodes.{Schema, at_place}
use Rattle.smithy_serde.specs.StoredValues.{writes_in}
use Rattle.smithy_serde.specs.Values.{Writes, list_of}
use Rattle.smithy_model.specs.declared.error.JobError.{JobError}
use Rattle.smithy_job.specs.Jobs as jobs
use Rattle.smithy_job.specs.JobView.{IsJob, nodes_of}
use Rattle.smithy_job.specs.Tables.{Has}
use Rattle.smithy_job.specs.declared.reading.Job.{Job}
use Rattle.smithy_bind.specs.declared.told.Answer.{Answer}
use Rattle.smithy_bind.specs.views.AnswerView.{Gives, job_of}
use Rattle.smithy_bind.specs.Told.{Outcome, outcome_of}

-- the job that is sent is the one that was read
pub job_sent : (sends : jobs.Job → Outcome) (o : Option jobs.Job) (stored : Job) (schema : Schema) (ws : Writes) (result : Result Answer JobError)
    → Has o (IsJob stored) → Some schema ≡ at_place stored.table stored.index.0 → ws ≡ writes_in (nodes_of stored) stored.writes
    → Gives (sends (job_of schema ws stored.endpoint.now stored.omit)) result → Gives (outcome_of sends o) result
job_sent sends (Some is) stored schema ws result has node listed told =
    let same : schema ≡ is.schema = let e : Some schema ≡ Some is.schema = node ∙ has.schema in cc in
    let writes : list_of ws ≡ is.writes = ap list_of listed ∙ has.writes in
    let job : job_of schema ws stored.endpoint.now stored.omit ≡ is = rw (same, writes, has.endpoint, has.omit) refl in
    subst (λ j. Gives (sends j) result) job told
job_sent sends None stored schema ws result has node listed told = absurd has
