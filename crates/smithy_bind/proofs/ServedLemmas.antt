-- What is told of the output of a job, from its parts.
use Rattle.std.proofs.Common.{◌≡◌, ap, subst, ◌∙◌, Option, Some, None, Result}
use Rattle.smithy_schema.specs.Nodes.{Schema, at_place}
use Rattle.smithy_serde.specs.StoredValues.{writes_in}
use Rattle.smithy_serde.specs.Values.{Writes, list_of}
use Rattle.smithy_binding.specs.Placing.{Protocol}
use Rattle.smithy_model.specs.declared.error.JobError.{JobError}
use Rattle.smithy_job.specs.Answering as jobs
use Rattle.smithy_job.specs.Tables.{Has}
use Rattle.smithy_job.specs.WrittenView.{IsAnswering, nodes_in}
use Rattle.smithy_job.specs.declared.answering.Answering.{Answering}
use Rattle.smithy_bind.specs.Serving.{served_by, served_job}
use Rattle.smithy_bind.specs.Told.{outcome_of}
use Rattle.smithy_bind.specs.declared.told.Answer.{Answer}
use Rattle.smithy_bind.specs.views.AnswerView.{Gives}

-- the output that is written is the one that was read
pub output_served : (protocol : Protocol) (o : Option jobs.Answering) (stored : Answering) (schema : Schema) (ws : Writes) (result : Result Answer JobError)
    → Has o (IsAnswering stored) → Some schema ≡ at_place stored.output.table stored.output.index.0 → ws ≡ writes_in (nodes_in stored.output) stored.output.writes
    → Gives (served_by protocol schema (list_of ws) stored.code) result → Gives (outcome_of (served_job protocol) o) result
output_served protocol (Some is) stored schema ws result has node listed told =
    let same : schema ≡ is.output.schema = let e : Some schema ≡ Some is.output.schema = node ∙ has.output.schema in cc in
    let writes : list_of ws ≡ is.output.writes = ap list_of listed ∙ has.output.writes in
    subst (λ t. Gives t result) (λ i. served_by protocol (same i) (writes i) (has.code i)) told
output_served protocol None stored schema ws result has node listed told = absurd has
