-- The job of a request that is sent on.
use Rattle.std.specs.Prelude.{ℕ, codes, List, Option, Some, None, option_map, option_and_then, if◌then◌else◌}
use Rattle.serde_json.specs.Data.{Data}
use Rattle.smithy_model.specs.Json.{text_at}
use Rattle.smithy_model.specs.Names.{is}
use Rattle.smithy_job.specs.Recovering.{Recovering, recovering}
use Rattle.smithy_job.specs.Settings.{rpc_endpoint}
use Rattle.smithy_job.specs.declared.gateway.Sending.{Sending}
use Rattle.smithy_job.specs.declared.gateway.Sending.TheVariants.{Rest, Rpc}

-- a request by its schema, how the input that has it is sent on, and the target of a call
pub record Gateway : Type 0 where
  pub recovering : Recovering
  pub to : Sending
  pub rpc_endpoint : List ℕ

abbrev pub sending_named : List ℕ → Option Sending
sending_named name = if is name (codes "rest") then Some Rest else (if is name (codes "rpc") then Some Rpc else None)

-- how the input is sent on
abbrev pub sending : Data → Option Sending
sending job = option_and_then sending_named (text_at (codes "to") job)

abbrev pub gateway_with : Data → Sending → List ℕ → Option Gateway
gateway_with job to e = option_map (λ r. record { recovering = r; to = to; rpc_endpoint = e }) (recovering job)

-- The job of a request that is sent on that a JSON value is, and none where it has not the form of one.
unfoldable pub gateway : Data → Option Gateway
gateway job = option_and_then (λ to. option_and_then (gateway_with job to) (rpc_endpoint job)) (sending job)
