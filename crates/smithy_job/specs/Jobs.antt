-- The jobs that a JSON value is.
use Rattle.std.specs.Prelude.{ℕ, codes, List, [], Option, Some, None, option_map, option_and_then}
use Rattle.serde_json.specs.Data.{Data}
use Rattle.serde_json.specs.Find.{get, as_str}
use Rattle.smithy_types.specs.Results.{each}
use Rattle.smithy_http.specs.Responses.{Response}
use Rattle.smithy_http.specs.declared.non_utf8.NonUtf8HeaderHandling.{NonUtf8HeaderHandling}
use Rattle.smithy_schema.specs.Nodes.{Schema}
use Rattle.smithy_serde.specs.Values.{Write, Writes, list_of}
use Rattle.smithy_serde.specs.declared.header_omit_settings.OmitFlags.{OmitFlags}
use Rattle.smithy_model.specs.Json.{items_in, provided}
use Rattle.smithy_model.specs.Names.{is_full_name}
use Rattle.smithy_model.specs.Nodes.{Errors}
use Rattle.smithy_model.specs.Models as models
use Rattle.smithy_model.specs.Models.{Asked, schema_with_floats, errors_with_floats}
use Rattle.smithy_model.specs.declared.floats.Floats.{Floats}
use Rattle.smithy_model.specs.declared.floats.Floats.TheVariants.{Kept}
use Rattle.smithy_job.specs.Inputs.{input}
use Rattle.smithy_job.specs.Keys.{Keys, keys_of}
use Rattle.smithy_job.specs.Responses.{response_in, policy_given}
use Rattle.smithy_job.specs.Settings.{endpoint, omit}

-- what is to be sent: the writes of an input, by a schema
pub record Job : Type 0 where
  pub schema : Schema
  pub writes : List Write
  pub endpoint : List ℕ
  pub omit : OmitFlags

-- a model, and the name of an operation
abbrev pub operation_given : Option Data → Option Data → Option (Data × List ℕ)
operation_given model operation = option_and_then (λ m. option_map (λ name. (m, name)) (option_and_then as_str operation)) model

-- those of a job
abbrev pub operation_in : Data → Option (Data × List ℕ)
operation_in job = operation_given (get (codes "model") job) (get (codes "operation") job)

-- what a model has at an operation
abbrev pub at_operation : {A : Type 0} → (Data → List ℕ → Option A) → Option (Data × List ℕ) → Option A
at_operation part operation = option_and_then (λ o. part o.0 o.1) operation

-- the same of a job
abbrev pub in_model : {A : Type 0} → (Data → List ℕ → Option A) → Data → Option A
in_model part job = at_operation part (operation_in job)

-- the schema of what is asked of an operation, by how its model's floats are read
unfoldable pub schema_at : Floats → Asked → Option (Data × List ℕ) → Option Schema
schema_at floats asked operation = at_operation (schema_with_floats floats asked) operation

-- the errors of an operation, and these of its service
unfoldable pub errors_at : Floats → List (List ℕ) → Option (Data × List ℕ) → Option Errors
errors_at floats service operation = at_operation (errors_with_floats floats service) operation

-- the schema of what is asked of a job's operation
unfoldable pub schema : Floats → Asked → Data → Option Schema
schema floats asked job = schema_at floats asked (operation_in job)

-- the writes of an input or an output, by its schema
pub record Written : Type 0 where
  pub schema : Schema
  pub writes : List Write

abbrev pub written_by : Schema → Option Writes → Option Written
written_by s ws = option_map (λ ws. record { schema = s; writes = list_of ws }) ws

-- what stands under a key of a job, by the schema of what is asked of its operation
unfoldable pub written : Floats → Asked → List ℕ → Data → Option Written
written floats asked key job =
    option_and_then (λ s. written_by s (option_and_then (input floats s) (get key job))) (schema floats asked job)

abbrev pub job_with : Floats → Data → List ℕ → OmitFlags → Option Job
job_with floats job e o =
    option_map (λ w. record { schema = w.schema; writes = w.writes; endpoint = e; omit = o }) (written floats models.input (codes "input") job)

-- The job of a request that a JSON value is, whose floats are read so, and none where it has not the form of one.
unfoldable pub job_with_floats : Floats → Data → Option Job
job_with_floats floats d = option_and_then (λ e. option_and_then (job_with floats d e) (omit d)) (endpoint d)

-- with its floats as they are
unfoldable pub job : Data → Option Job
job d = job_with_floats Kept d

-- what a response is read as: an output, an error, or the one of some errors that has this code
pub data Expected : Type 0 where
  output : Schema → Expected
  error : Schema → Expected
  coded : List ℕ → Errors → Expected

pub record Received : Type 0 where
  pub response : Response
  pub policy : NonUtf8HeaderHandling
  pub expected : Expected

abbrev pub full_name_in : Data → Option (List ℕ)
full_name_in d = option_and_then (λ name. provided (is_full_name name) (Some name)) (as_str d)

-- full names of a service's errors, which may be absent
abbrev pub names_given : Option Data → Option (List (List ℕ))
names_given None = Some []
names_given (Some d) = option_and_then (each full_name_in) (items_in d)

-- the model and the operation that stand under these keys
abbrev pub operation_among : Keys → Option (Data × List ℕ)
operation_among k = operation_given k.model k.operation

abbrev pub schema_among : Floats → Asked → Keys → Option Schema
schema_among floats asked k = schema_at floats asked (operation_among k)

abbrev pub errors_among : Floats → List (List ℕ) → Keys → Option Errors
errors_among floats service k = errors_at floats service (operation_among k)

-- the errors that a response may name, by how the model's floats are read
unfoldable pub errors_given_with_floats : Floats → Keys → Option Errors
errors_given_with_floats floats k = option_and_then (λ names. errors_among floats names k) (names_given k.service_errors)

-- with its floats as they are
unfoldable pub errors_given : Keys → Option Errors
errors_given k = errors_given_with_floats Kept k

-- as the operation's output
abbrev pub expected_output : Floats → Keys → Option Expected
expected_output floats k = option_map output (schema_among floats models.output k)

-- as the error of this name
abbrev pub expected_error : Floats → List ℕ → Keys → Option Expected
expected_error floats name k = option_map error (schema_among floats (models.error name) k)

-- as the one of these errors that has this code
abbrev pub expected_coded : Floats → List ℕ → List (List ℕ) → Keys → Option Expected
expected_coded floats code service k = option_map (coded code) (errors_among floats service k)

-- without an error's name: as the error of the code, where there is one
abbrev pub by_code : Floats → Keys → List (List ℕ) → Option Data → Option Expected
by_code floats k service None = expected_output floats k
by_code floats k service (Some code) = option_and_then (λ c. expected_coded floats c service k) (as_str code)

abbrev pub expected_by_code : Floats → List (List ℕ) → Keys → Option Expected
expected_by_code floats service k = by_code floats k service k.code

-- beside an error's name there is neither a code nor an error of the service
abbrev pub expected_by : Floats → Keys → Option Data → Option Data → Option Data → Option Expected
expected_by floats k None code service = option_and_then (λ names. by_code floats k names code) (names_given service)
expected_by floats k (Some name) None None = option_and_then (λ e. expected_error floats e k) (as_str name)
expected_by floats k (Some name) _ _ = None

abbrev pub expected_by_name : Floats → Data → Keys → Option Expected
expected_by_name floats name k = expected_by floats k (Some name) k.code k.service_errors

-- what a response is read as by these keys, by how the model's floats are read
abbrev pub expected_with_floats : Floats → Keys → Option Expected
expected_with_floats floats k = expected_by floats k k.error k.code k.service_errors

-- with its floats as they are
abbrev pub expected : Keys → Option Expected
expected k = expected_with_floats Kept k

-- a response, and what is done with a header of it that is not UTF-8
pub record Message : Type 0 where
  pub response : Response
  pub policy : NonUtf8HeaderHandling

abbrev pub message_with : Keys → Response → Option Message
message_with k r = option_map (λ p. record { response = r; policy = p }) (policy_given k.policy)

unfoldable pub message : Keys → Option Message
message k = option_and_then (message_with k) (option_and_then response_in k.response)

abbrev pub received_as : Message → Expected → Received
received_as m e = record { response = m.response; policy = m.policy; expected = e }

unfoldable pub received_by : Keys → Option Received
received_by k = option_and_then (λ m. option_map (received_as m) (expected k)) (message k)

-- The job of a response that a JSON value is, and none where it has not the form of one.
abbrev pub received : Data → Option Received
received job = received_by (keys_of job)
