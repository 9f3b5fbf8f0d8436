-- What is answered to a job, from its parts.
use Rattle.std.proofs.Common.{◌≡◌, refl, ap, subst, ◌∙◌, List, ℕ, Option, Some, None, Result, Ok}
use Rattle.smithy_http.specs.Requests.{Request}
use Rattle.smithy_schema.specs.Nodes.{Schema, at_place}
use Rattle.smithy_serde.specs.StoredValues.{writes_in}
use Rattle.smithy_serde.specs.Values.{Writes, list_of}
use Rattle.smithy_serde.specs.declared.error.SerdeError.{SerdeError}
use Rattle.smithy_serde.specs.declared.header_omit_settings.OmitFlags.{OmitFlags}
use Rattle.smithy_job.specs.Jobs as jobs
use Rattle.smithy_job.specs.JobView.{IsJob, nodes_of}
use Rattle.smithy_job.specs.Tables.{Has, ReadsAs}
use Rattle.smithy_job.specs.declared.reading.Job.{Job}

-- the job of these parts
abbrev pub job_of : Schema → Writes → List ℕ → OmitFlags → jobs.Job
job_of s ws e o = record { schema = s; writes = list_of ws; endpoint = e; omit = o }

-- the job that is answered is the one that was read
pub job_answered : (IsAnswered : Result Request SerdeError → jobs.Job → Type 0) (o : Option jobs.Job) (stored : Job) (schema : Schema) (ws : Writes) (outcome : Result Request SerdeError)
    → Has o (IsJob stored) → Some schema ≡ at_place stored.table stored.index.0 → ws ≡ writes_in (nodes_of stored) stored.writes
    → IsAnswered outcome (job_of schema ws stored.endpoint.now stored.omit) → ReadsAs IsAnswered o (Ok outcome)
job_answered IsAnswered (Some is) stored schema ws outcome has node listed told =
    let same : schema ≡ is.schema = let e : Some schema ≡ Some is.schema = node ∙ has.schema in cc in
    let writes : list_of ws ≡ is.writes = ap list_of listed ∙ has.writes in
    let job : job_of schema ws stored.endpoint.now stored.omit ≡ is = rw (same, writes, has.endpoint, has.omit) refl in
    subst (IsAnswered outcome) job told
job_answered IsAnswered None stored schema ws outcome has node listed told = absurd has
