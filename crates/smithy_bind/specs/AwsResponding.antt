-- What is answered to a response that is read by a protocol of AWS (Smithy, AWS restJson1 and AWS JSON protocols).
use Rattle.std.specs.Prelude.{ℕ, codes, Bool, true, false, ◌||◌, List, is_some, Option, Some, None, option_map, option_and_then, Result, Ok, Err, if◌then◌else◌}
use Rattle.std.specs.Option.{option_map_or}
use Rattle.serde_json.specs.Data.{Data}
use Rattle.serde_json.specs.Find.{get}
use Rattle.smithy_http.specs.Responses.{Response}
use Rattle.smithy_schema.specs.Nodes.{Schema}
use Rattle.smithy_serde.specs.Values.{Value}
use Rattle.smithy_serde.specs.declared.error.SerdeError.{SerdeError}
use Rattle.smithy_serde.specs.declared.error.SerdeError.TheVariants.{InvalidInput, UnknownMember}
use Rattle.smithy_registry.specs.ErrorCodes.{sanitized}
use Rattle.smithy_aws.specs.BodyValues.{aws_json_value}
use Rattle.smithy_aws.specs.ErrorCodes.{error_code}
use Rattle.smithy_aws.specs.ErrorShapes.{is_success}
use Rattle.smithy_aws.specs.ResponseValues.{Shape, floored, rest_json1_value, taken}
use Rattle.smithy_model.specs.Nodes.{Errors}
use Rattle.smithy_model.specs.declared.floats.Floats.TheVariants.{Decimals}
use Rattle.smithy_job.specs.AwsKeys.{reading_in}
use Rattle.smithy_job.specs.Jobs as jobs
use Rattle.smithy_job.specs.Jobs.{Expected, Message, errors_given_with_floats, expected_with_floats, message}
use Rattle.smithy_job.specs.Keys.{Keys, keys_of}
use Rattle.smithy_job.specs.declared.aws_call.AwsProtocol.{AwsProtocol}
use Rattle.smithy_job.specs.declared.aws_call.AwsProtocol.TheVariants.{RestJson1, AwsJson10, AwsJson11}
use Rattle.smithy_job.specs.declared.aws_call.AwsReading.{AwsReading}
use Rattle.smithy_bind.specs.Responding.{Reply, Target, by_schema, document_read, error_of, reply_with, responded_to, told_reply, unknown}
use Rattle.smithy_bind.specs.Told.{Outcome, outcome_of}

-- ---- which shape a response has

-- the job says it, by an error's name or by a code
abbrev pub says_error : Keys → Bool
says_error k = is_some k.error || is_some k.code

-- the one of these errors that has the code which the response tells
abbrev pub named_error : Errors → Option (List ℕ) → Result Expected SerdeError
named_error errors (Some code) = Ok (jobs.coded code errors)
named_error errors None = Err (InvalidInput (codes "the response names no error"))

-- the job says it, or the response is a success, and so the output
abbrev pub is_asked : Keys → Response → Bool
is_asked k r = says_error k || is_success r.status

-- what the job asks, and else the error that the response names
unfoldable pub expected_for : Keys → Response → Option (Result Expected SerdeError)
expected_for k r =
    if is_asked k r then option_map Ok (expected_with_floats Decimals k)
    else option_map (λ errors. named_error errors (error_code r)) (errors_given_with_floats Decimals k)

-- what it is read by: a schema, or no error has the code
abbrev pub coded_target : List ℕ → Option Schema → Target
coded_target code (Some s) = by_schema s true (Some s.node.full_name)
coded_target code None = unknown code

unfoldable pub aws_target : Expected → Target
aws_target (jobs.output s) = by_schema s false None
aws_target (jobs.error s) = by_schema s true None
aws_target (jobs.coded code errors) = coded_target code (error_of code errors)

-- ---- what is read of it

-- the shape, which drops fractions of seconds where that is asked
abbrev pub floored_if : Bool → Shape → Shape
floored_if floors shape = if floors then floored shape else shape

-- by restJson1, where responses can be read by the schema
abbrev pub rest_json1_read : (floors_times : Bool) → Schema → (is_error : Bool) → Message → Option (Result Value SerdeError)
rest_json1_read floors s is_error m =
    option_map (λ shape. rest_json1_value (floored_if floors shape) m.response m.policy) (taken is_error s)

-- AWS JSON asks nothing of the schema
abbrev pub value_by : AwsProtocol → (floors_times : Bool) → Schema → (is_error : Bool) → Message → Option (Result Value SerdeError)
value_by RestJson1 floors s is_error m = rest_json1_read floors s is_error m
value_by AwsJson10 floors s is_error m = Some (aws_json_value floors s m.response)
value_by AwsJson11 floors s is_error m = Some (aws_json_value floors s m.response)

abbrev pub value_read : AwsReading → Schema → (is_error : Bool) → Message → Option (Result Value SerdeError)
value_read reading s is_error m = value_by reading.protocol reading.floors_times s is_error m

-- what is read of a response, or the first refusal; none where no response can be read by the schema
abbrev pub aws_reply_by : AwsReading → Message → Target → Option (Result Reply SerdeError)
aws_reply_by reading m (by_schema s is_error error) = option_map (λ v. reply_with error (document_read v)) (value_read reading s is_error m)
aws_reply_by reading m (unknown code) = Some (Err (UnknownMember (sanitized code)))

abbrev pub reply_as : AwsReading → Message → Result Expected SerdeError → Option (Result Reply SerdeError)
reply_as reading m (Ok e) = aws_reply_by reading m (aws_target e)
reply_as reading m (Err refusal) = Some (Err refusal)

-- what is read of the response under these keys; none where there is no job of one
abbrev pub message_read : AwsReading → Keys → Message → Option (Result Reply SerdeError)
message_read reading k m = option_and_then (reply_as reading m) (expected_for k m.response)

unfoldable pub aws_reply : AwsReading → Keys → Option (Result Reply SerdeError)
aws_reply reading k = option_and_then (message_read reading k) (message k)

-- the answer to the response that a JSON value has, read so
unfoldable pub aws_replied : AwsReading → Data → Outcome
aws_replied reading d = outcome_of told_reply (aws_reply reading (keys_of d))

-- the same by the protocol that a value names
abbrev pub replied_by : Data → Data → Outcome
replied_by protocol d = outcome_of (λ reading. aws_replied reading d) (reading_in protocol d)

-- the same by the protocol that the JSON value names, and what `response` answers where it names none
unfoldable pub aws_responded : Data → Outcome
aws_responded d = option_map_or (λ p. replied_by p d) (get (codes "protocol") d) (responded_to d)
