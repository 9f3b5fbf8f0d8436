-- What the code sends and reads by a protocol of AWS.
use Rattle.std.specs.Prelude.{◌≡◌, ℕ, Bool, List, Option, Some, option_map, Result, Ok}
use Rattle.std.specs.Borrow.{Bor}
use Rattle.smithy_types.specs.Documents.{Document}
use Rattle.smithy_schema.specs.Nodes.{Table, Schema, at_place}
use Rattle.smithy_schema.specs.References.{schema_of}
use Rattle.smithy_schema.specs.declared.schema_ref.SchemaRef.{SchemaRef}
use Rattle.smithy_serde.specs.Values.{Value, Writes}
use Rattle.smithy_serde.specs.declared.error.SerdeError.{SerdeError}
use Rattle.smithy_serde.specs.declared.header_omit_settings.OmitFlags.{OmitFlags}
use Rattle.smithy_serde.specs.declared.struct_value.StructValue.{StructValue}
use Rattle.smithy_aws.specs.BodyValues.{aws_json_value, GivesValue}
use Rattle.smithy_aws.specs.ErrorCodes.{error_code}
use Rattle.smithy_aws.specs.declared.aws_json.AwsJsonVersion.{AwsJsonVersion}
use Rattle.smithy_model.specs.Nodes.{Errors}
use Rattle.smithy_model.specs.PlacedView.{ArePlaced}
use Rattle.smithy_model.specs.declared.error.JobError.{JobError}
use Rattle.smithy_model.specs.declared.table.PlacedErrors.{PlacedErrors}
use Rattle.smithy_job.specs.AwsCallView.{call_seen, json_call_seen}
use Rattle.smithy_job.specs.Jobs as jobs
use Rattle.smithy_job.specs.KeysView.{keys_seen}
use Rattle.smithy_job.specs.ReceivedView.{message_seen, IsExpected, IsExpectedIn}
use Rattle.smithy_job.specs.Tables.{ReadsAs}
use Rattle.smithy_job.specs.declared.aws_call.AwsCall.{AwsCall}
use Rattle.smithy_job.specs.declared.aws_call.AwsJsonCall.{AwsJsonCall}
use Rattle.smithy_job.specs.declared.aws_call.AwsReading.{AwsReading}
use Rattle.smithy_job.specs.declared.keys.Keys.{Keys}
use Rattle.smithy_job.specs.declared.received.Expected.{Expected}
use Rattle.smithy_job.specs.declared.received.ExpectedIn.{ExpectedIn}
use Rattle.smithy_job.specs.declared.received.Message.{Message}
use Rattle.smithy_bind.specs.AwsRequesting.{aws_json_sent, aws_sent, call_by, rest_json1_sent}
use Rattle.smithy_bind.specs.AwsResponding.{aws_reply_by, aws_target, message_read, named_error, reply_as, rest_json1_read, value_read}
use Rattle.smithy_bind.specs.Responding as answers
use Rattle.smithy_bind.specs.Responding.{document_read, reply_with, told_reply}
use Rattle.smithy_bind.specs.Told.{outcome_of}
use Rattle.smithy_bind.specs.declared.reply.Reply.{Reply}
use Rattle.smithy_bind.specs.declared.target.By.{By}
use Rattle.smithy_bind.specs.declared.target.Target.{Target}
use Rattle.smithy_bind.specs.declared.told.Answer.{Answer}
use Rattle.smithy_bind.specs.views.AnswerView.{Gives, job_of}
use Rattle.smithy_bind.specs.views.ReplyView.{name_seen, IsBy, IsTarget, MakesText, Replies}

-- ---- inputs

-- it is the answer to the job of these writes, where they are sent so
abbrev pub SendsByAws : AwsCall → SchemaRef → Writes → List ℕ → OmitFlags → Result Answer JobError → Type 0
SendsByAws call schema ws endpoint omit result = Gives (aws_sent (call_seen call) (job_of (schema_of schema) ws endpoint omit)) result

abbrev pub SendsRestJson1 : SchemaRef → Writes → List ℕ → OmitFlags → Result Answer JobError → Type 0
SendsRestJson1 schema ws endpoint omit result = Gives (rest_json1_sent (job_of (schema_of schema) ws endpoint omit)) result

abbrev pub SendsCall : AwsJsonVersion → AwsJsonCall → SchemaRef → Writes → List ℕ → OmitFlags → Result Answer JobError → Type 0
SendsCall version call schema ws endpoint omit result =
    Gives (aws_json_sent (call_by version (json_call_seen call)) (job_of (schema_of schema) ws endpoint omit)) result

-- ---- what a response is read by

-- it is read by that where this is expected
abbrev pub IsByFor : Table → Expected → By → Type 0
IsByFor table expected by = (is : jobs.Expected) → IsExpected table expected is → IsBy table by (aws_target is)

abbrev pub IsTargetFor : ExpectedIn → Target → Type 0
IsTargetFor expected target = (is : jobs.Expected) → IsExpectedIn expected is → IsTarget target (aws_target is)

-- some errors stand at these places
abbrev pub StandSomehow : PlacedErrors → Type 0
StandSomehow stored = (errors : Errors) × ArePlaced stored errors

-- ---- what is read of it

-- the text of a value that was read, or the refusal
abbrev pub MakesValueText : Result StructValue SerdeError → Result (List ℕ) SerdeError → Type 0
MakesValueText value result = (v : Result Value SerdeError) → GivesValue v value → MakesText (document_read v) result

-- the text of a value, or its first refusal; no job where there is none of them
abbrev pub ReadsText : Option (Result Value SerdeError) → Result (Result (List ℕ) SerdeError) JobError → Type 0
ReadsText value result = ReadsAs (λ text v. MakesText (document_read v) text) value result

-- by the schema at a place
abbrev pub ReadsRestJson1 : (floors_times : Bool) → Table → ℕ → (is_error : Bool) → Message → Result (Result (List ℕ) SerdeError) JobError → Type 0
ReadsRestJson1 floors table place is_error m result =
    (s : Schema) → at_place table place ≡ Some s → ReadsText (rest_json1_read floors s is_error (message_seen m)) result

abbrev pub ReadsAwsJson : (floors_times : Bool) → Table → ℕ → Message → Result (List ℕ) SerdeError → Type 0
ReadsAwsJson floors table place m result =
    (s : Schema) → at_place table place ≡ Some s → MakesText (document_read (aws_json_value floors s m.response)) result

abbrev pub ReadsByAws : AwsReading → Table → ℕ → (is_error : Bool) → Message → Result (Result (List ℕ) SerdeError) JobError → Type 0
ReadsByAws reading table place is_error m result =
    (s : Schema) → at_place table place ≡ Some s → ReadsText (value_read reading s is_error (message_seen m)) result

-- what is read of an error with this name, where it was found for a code, by the text of its value
abbrev pub NamesReply : Result (List ℕ) SerdeError → Option (Bor (List ℕ)) → Result Reply SerdeError → Type 0
NamesReply text error result = (made : Result Document SerdeError) → MakesText made text → Replies (reply_with (name_seen error) made) result

-- what is read of a response, or its first refusal; no job where there is none of them
abbrev pub ReadsReply : Option (Result answers.Reply SerdeError) → Result (Result Reply SerdeError) JobError → Type 0
ReadsReply reply result = ReadsAs (λ made is. Replies is made) reply result

abbrev pub RepliesByAws : AwsReading → Target → Message → Result (Result Reply SerdeError) JobError → Type 0
RepliesByAws reading target m result = (is : answers.Target) → IsTarget target is → ReadsReply (aws_reply_by reading (message_seen m) is) result

-- what is told of a response that is read as this
abbrev pub TellsExpected : AwsReading → ExpectedIn → Message → Result Answer JobError → Type 0
TellsExpected reading expected m result =
    (is : jobs.Expected) → IsExpectedIn expected is → Gives (outcome_of told_reply (reply_as reading (message_seen m) (Ok is))) result

-- or as the one of these errors that it names
abbrev pub TellsError : AwsReading → PlacedErrors → Message → Result Answer JobError → Type 0
TellsError reading placed m result =
    (errors : Errors) → ArePlaced placed errors → Gives (outcome_of told_reply (reply_as reading (message_seen m) (named_error errors (error_code m.response)))) result

-- what is told of a message under these keys
abbrev pub TellsMessage : AwsReading → Keys → Message → Result Answer JobError → Type 0
TellsMessage reading keys m result = Gives (outcome_of told_reply (message_read reading (keys_seen keys) (message_seen m))) result
