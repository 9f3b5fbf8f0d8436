-- The job of an output that becomes a response.
use Rattle.std.specs.Prelude.{ℕ, codes, Option, Some, None, option_map, option_and_then}
use Rattle.std.specs.Option.{option_map_or}
use Rattle.serde_json.specs.Data.{Data}
use Rattle.serde_json.specs.Find.{get}
use Rattle.smithy_ids.specs.Traits.{Http}
use Rattle.smithy_model.specs.Models as models
use Rattle.smithy_model.specs.Models.{http_in_model}
use Rattle.smithy_model.specs.declared.floats.Floats.TheVariants.{Kept}
use Rattle.smithy_job.specs.Jobs.{Written, in_model, written}
use Rattle.smithy_job.specs.Responses.{three_digits, status_in}

-- an output by its schema, and the status where it has none
pub record Answering : Type 0 where
  pub output : Written
  pub code : ℕ

-- `@http` of a job's operation, where it has one
unfoldable pub operation_http : Data → Option (Option Http)
operation_http job = in_model http_in_model job

-- the code of `@http`, or else 200 (http, code)
abbrev pub http_code : Option Http → ℕ
http_code http = option_map_or (λ h. h.code) http 200

-- the code of a job's operation, of three digits
abbrev pub operation_code : Data → Option ℕ
operation_code job = option_and_then (λ h. three_digits (http_code h)) (operation_http job)

-- the status that is given, or else the code of the job's operation
abbrev pub code_given : Data → Option Data → Option ℕ
code_given job None = operation_code job
code_given job (Some d) = status_in d

abbrev pub code_asked : Data → Option ℕ
code_asked job = code_given job (get (codes "status") job)

abbrev pub answering_with : Data → ℕ → Option Answering
answering_with job c = option_map (λ w. record { output = w; code = c }) (written Kept models.output (codes "output") job)

-- The job of an output that a JSON value is, and none where it has not the form of one.
unfoldable pub answering : Data → Option Answering
answering job = option_and_then (answering_with job) (code_asked job)
