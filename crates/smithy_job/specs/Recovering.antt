-- The job of a request whose input is to be recovered.
use Rattle.std.specs.Prelude.{ℕ, List, Option, option_map, option_and_then}
use Rattle.serde_json.specs.Data.{Data}
use Rattle.smithy_http.specs.Requests.{Request}
use Rattle.smithy_schema.specs.Nodes.{Schema}
use Rattle.smithy_serde.specs.declared.header_omit_settings.OmitFlags.{OmitFlags}
use Rattle.smithy_model.specs.Models as models
use Rattle.smithy_model.specs.declared.floats.Floats.TheVariants.{Kept}
use Rattle.smithy_job.specs.Jobs.{schema}
use Rattle.smithy_job.specs.Requests.{request_given}
use Rattle.smithy_job.specs.Settings.{endpoint, omit}

-- a request, and by what its input is recovered
pub record Recovering : Type 0 where
  pub request : Request
  pub schema : Schema
  pub endpoint : List ℕ
  pub omit : OmitFlags

abbrev pub recovering_with : Data → Request → List ℕ → OmitFlags → Option Recovering
recovering_with job q e o = option_map (λ s. record { request = q; schema = s; endpoint = e; omit = o }) (schema Kept models.input job)

-- The job of a request that a JSON value is, and none where it has not the form of one.
unfoldable pub recovering : Data → Option Recovering
recovering job =
    option_and_then (λ q. option_and_then (λ e. option_and_then (recovering_with job q e) (omit job)) (endpoint job)) (request_given job)
