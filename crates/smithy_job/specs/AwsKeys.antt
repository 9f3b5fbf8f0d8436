-- What a job says of a protocol of AWS: under `protocol`, `service` and `fractions` (Smithy, AWS restJson1 and AWS JSON protocols).
use Rattle.std.specs.Prelude.{ℕ, codes, List, Bool, true, false, is_some, Option, Some, None, option_map, option_and_then, if◌then◌else◌}
use Rattle.serde_json.specs.Data.{Data}
use Rattle.serde_json.specs.Find.{get, as_str}
use Rattle.smithy_ids.specs.ShapeIds.{Parts, parts_in}
use Rattle.smithy_model.specs.Names.{is}
use Rattle.smithy_job.specs.Jobs.{full_name_in}
use Rattle.smithy_job.specs.declared.aws_call.AwsProtocol.{AwsProtocol}
use Rattle.smithy_job.specs.declared.aws_call.AwsProtocol.TheVariants.{RestJson1, AwsJson10, AwsJson11}
use Rattle.smithy_job.specs.declared.aws_call.AwsReading.{AwsReading}

-- the protocol by the full name of its trait
abbrev pub protocol_named : List ℕ → Option AwsProtocol
protocol_named name =
    if is name (codes "aws.protocols#restJson1") then Some RestJson1
    else (if is name (codes "aws.protocols#awsJson1_0") then Some AwsJson10
    else (if is name (codes "aws.protocols#awsJson1_1") then Some AwsJson11 else None))

abbrev pub protocol_in : Data → Option AwsProtocol
protocol_in d = option_and_then protocol_named (as_str d)

-- a call of AWS JSON: its service and its operation, and whether the service's errors keep the codes of AWS Query
pub record AwsJsonCall : Type 0 where
  pub service : Parts
  pub operation : Parts
  pub is_query_compatible : Bool

-- how a job's input is sent
pub data AwsCall : Type 0 where
  rest_json1 : AwsCall
  aws_json10 aws_json11 : AwsJsonCall → AwsCall

-- the value of the trait `awsQueryCompatible` of a shape of the job's model (Smithy, awsQueryCompatible trait)
abbrev pub query_trait : List ℕ → Data → Option Data
query_trait service job =
    option_and_then (get (codes "aws.protocols#awsQueryCompatible")) (option_and_then (get (codes "traits")) (option_and_then (get service) (option_and_then (get (codes "shapes")) (get (codes "model") job))))

-- the service's shape is in the job's model, and has that trait
abbrev pub is_query_compatible : List ℕ → Data → Bool
is_query_compatible service job = is_some (query_trait service job)

-- the shape whose full name stands under a key
abbrev pub shape_at : List ℕ → Data → Option Parts
shape_at key job = option_and_then parts_in (option_and_then full_name_in (get key job))

abbrev pub json_call : Data → Option AwsJsonCall
json_call job =
    option_and_then (λ s. option_map (λ o. record { service = s; operation = o; is_query_compatible = is_query_compatible s.full_name job }) (shape_at (codes "operation") job)) (shape_at (codes "service") job)

-- how a job's input is sent by a protocol
abbrev pub call_by : AwsProtocol → Data → Option AwsCall
call_by RestJson1 job = Some rest_json1
call_by AwsJson10 job = option_map aws_json10 (json_call job)
call_by AwsJson11 job = option_map aws_json11 (json_call job)

-- how a job's input is sent by the protocol that a value names
unfoldable pub call_in : Data → Data → Option AwsCall
call_in protocol job = option_and_then (λ p. call_by p job) (protocol_in protocol)

-- whether fractions of seconds are dropped
abbrev pub fractions_named : List ℕ → Option Bool
fractions_named name = if is name (codes "refuse") then Some false else (if is name (codes "floor") then Some true else None)

-- they are refused where nothing is said
abbrev pub fractions_given : Option Data → Option Bool
fractions_given None = Some false
fractions_given (Some d) = option_and_then fractions_named (as_str d)

-- how a job's response is read by the protocol that a value names
unfoldable pub reading_in : Data → Data → Option AwsReading
reading_in protocol job =
    option_and_then (λ p. option_map (λ f. record { protocol = p; floors_times = f }) (fractions_given (get (codes "fractions") job))) (protocol_in protocol)
