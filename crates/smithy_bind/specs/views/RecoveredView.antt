-- The input that the code recovers.
use Rattle.std.specs.Prelude.{◌≡◌, List, Some, Result}
use Rattle.smithy_schema.specs.Nodes.{Schema, at_place}
use Rattle.smithy_serde.specs.StructValues.{members_of}
use Rattle.smithy_serde.specs.Values.{Write, list_of}
use Rattle.smithy_serde.specs.declared.struct_value.StructValue.{StructValue}
use Rattle.smithy_recovery.specs.Finding.{Finds}
use Rattle.smithy_recovery.specs.Recovered.{recovered}
use Rattle.smithy_recovery.specs.declared.error.RecoverError.{RecoverError}
use Rattle.smithy_model.specs.declared.error.JobError.{JobError}
use Rattle.smithy_job.specs.declared.recovering.Recovering.{Recovering}
use Rattle.smithy_bind.specs.Outcome.{json_reading}
use Rattle.smithy_bind.specs.Recovering.{recovered_by}
use Rattle.smithy_bind.specs.declared.told.Answer.{Answer}
use Rattle.smithy_bind.specs.views.AnswerView.{Gives}

-- the writes of a structure
abbrev pub writes_seen : StructValue → List Write
writes_seen v = list_of (members_of v)

-- it is the input of a job's request, by the schema in its table, or there is none
abbrev pub FindsInput : Recovering → Result StructValue RecoverError → Type 0
FindsInput job result =
    (s : Schema) → at_place job.table job.index.0 ≡ Some s → Finds writes_seen result (recovered (json_reading s job.endpoint.now) job.omit job.request)

-- it is what is told of the input of a job's request, by the schema in its table
abbrev pub TellsInput : Recovering → Result Answer JobError → Type 0
TellsInput job result =
    (s : Schema) → at_place job.table job.index.0 ≡ Some s → Gives (recovered_by (json_reading s job.endpoint.now) job.omit job.request) result
