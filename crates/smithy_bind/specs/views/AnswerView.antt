-- The outcome that the code's answer tells.
use Rattle.std.specs.Prelude.{◌≡◌, ℕ, List, Result, Ok, Err}
use Rattle.smithy_types.specs.Documents.{Document}
use Rattle.smithy_http.specs.Requests.{Request}
use Rattle.smithy_schema.specs.Nodes.{Schema}
use Rattle.smithy_schema.specs.References.{schema_of}
use Rattle.smithy_schema.specs.declared.schema_ref.SchemaRef.{SchemaRef}
use Rattle.smithy_serde.specs.Values.{Writes, list_of}
use Rattle.smithy_serde.specs.StructValues.{members_of}
use Rattle.smithy_serde.specs.declared.struct_value.StructValue.{StructValue}
use Rattle.smithy_serde.specs.declared.error.SerdeError.{SerdeError}
use Rattle.smithy_serde.specs.declared.error.SerdeError.TheVariants as refusal
use Rattle.smithy_serde.specs.declared.header_omit_settings.OmitFlags.{OmitFlags}
use Rattle.smithy_binding.specs.Answer.{answer}
use Rattle.smithy_binding.specs.Refusing.{Answers}
use Rattle.smithy_binding.specs.Rpc.{rpc_answer}
use Rattle.smithy_job.specs.Jobs.{Job}
use Rattle.smithy_model.specs.declared.error.JobError.{JobError}
use Rattle.smithy_model.specs.declared.error.JobError.TheVariants.{NoJob, OutOfMemory}
use Rattle.smithy_bind.specs.Outcome.{json_bodies, sent_by}
use Rattle.smithy_bind.specs.Shown.{refusal_line}
use Rattle.smithy_bind.specs.Told as outcome
use Rattle.smithy_job.specs.declared.gateway.Sending.{Sending}
use Rattle.smithy_bind.specs.declared.told.Answer.{Answer}
use Rattle.smithy_bind.specs.declared.told.Answer.TheVariants.{Fault, Output}

abbrev pub outcome_view : Answer → outcome.Outcome
outcome_view (Fault line) = outcome.fault_line line.items
outcome_view (Output text) = outcome.output text.items

-- what is to be told is this
abbrev pub Gives : outcome.Outcome → Result Answer JobError → Type 0
Gives told (Ok answer) = outcome_view answer ≡ told
Gives told (Err NoJob) = outcome.no_job ≡ told
Gives told (Err OutOfMemory) = Unit {0}

-- it is the line of a refusal; want of memory is passed on
pub record TellsRefusal (e : SerdeError) (result : Result Answer JobError) : Type 0 where
  pub line : Gives (outcome.fault_line (refusal_line e)) result
  pub memory : e ≡ refusal.OutOfMemory → result ≡ Err OutOfMemory

-- the job that sends these writes by a schema
abbrev pub job_of : Schema → Writes → List ℕ → OmitFlags → Job
job_of s ws e o = record { schema = s; writes = list_of ws; endpoint = e; omit = o }

-- it is the answer to the job of these writes, as they are sent, with bodies of these texts
abbrev pub Sends : Sending → (Document → List ℕ) → SchemaRef → Writes → List ℕ → OmitFlags → Result Answer JobError → Type 0
Sends sending text schema ws endpoint omit result = Gives (sent_by sending (json_bodies text) (job_of (schema_of schema) ws endpoint omit)) result

-- the request of a structure that keeps its writes is placed with bodies of these texts, or it is its first fault
abbrev pub IsPlaced : (Document → List ℕ) → SchemaRef → StructValue → List ℕ → OmitFlags → Result Request SerdeError → Type 0
IsPlaced text schema input endpoint omit result =
    Answers result (answer (json_bodies text) (schema_of schema) (list_of (members_of input)) endpoint omit)

-- a request that is posted whole, or the first fault of its input
abbrev pub IsPosted : (Document → List ℕ) → Writes → List ℕ → OmitFlags → Result Request SerdeError → Type 0
IsPosted text ws endpoint omit result = Answers result (rpc_answer (json_bodies text) ws endpoint omit)
