-- What the code has under the keys of a job of a response.
use Rattle.std.specs.Prelude.{◌≡◌, ℕ, List, Option, option_map}
use Rattle.std.specs.Borrow.{Bor}
use Rattle.serde_json.specs.Data.{Data}
use Rattle.smithy_json.specs.views.JsonView.{view}
use Rattle.smithy_json.specs.declared.value.JsonValue.{JsonValue}
use Rattle.smithy_job.specs.Jobs.{operation_given}
use Rattle.smithy_job.specs.Keys as jobs
use Rattle.smithy_job.specs.declared.keys.Keys.{Keys}

abbrev pub value_seen : Option (Bor JsonValue) → Option Data
value_seen v = option_map (λ x. view x.now) v

-- the model and the name of the operation that are these values
abbrev pub operation_at : Option (Bor JsonValue) → Option (Bor JsonValue) → Option (Data × List ℕ)
operation_at model operation = operation_given (value_seen model) (value_seen operation)

abbrev pub keys_seen : Keys → jobs.Keys
keys_seen k = record {
  model = value_seen k.model;
  operation = value_seen k.operation;
  response = value_seen k.response;
  error = value_seen k.error;
  code = value_seen k.code;
  service_errors = value_seen k.service_errors;
  policy = value_seen k.policy;
}

-- they ask for the same of an operation of a model
pub record AskAlike (one other : jobs.Keys) : Type 0 where
  pub operation : one.operation ≡ other.operation
  pub error : one.error ≡ other.error
  pub code : one.code ≡ other.code
  pub service_errors : one.service_errors ≡ other.service_errors
