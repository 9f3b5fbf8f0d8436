-- The job of a request that is sent on, from its parts.
use Rattle.std.proofs.Common.{◌≡◌, refl, ℕ, List, Option, Some, None, option_map, Result, Err, IsTrue}
use Rattle.serde_json.specs.Data.{Data}
use Rattle.smithy_model.specs.declared.error.JobError.{JobError}
use Rattle.smithy_model.specs.declared.error.JobError.TheVariants.{NoJob, OutOfMemory}
use Rattle.smithy_job.specs.Gateway.{gateway, gateway_with, sending}
use Rattle.smithy_job.specs.Recovering as jobs
use Rattle.smithy_job.specs.Settings.{is_rpc_endpoint, rpc_endpoint}
use Rattle.smithy_job.specs.views.GatewayView.{IsGateway}
use Rattle.smithy_job.specs.views.RecoveringView.{IsRecovering}
use Rattle.smithy_job.specs.views.Tables.{Has, ReadsAs}
use Rattle.smithy_job.specs.declared.gateway.Gateway.{Gateway}
use Rattle.smithy_job.specs.declared.gateway.Sending.{Sending}
use Rattle.smithy_job.proofs.ReceivedLemmas.{none-mapped}

module _ (d : Data) (to : Sending) (e : List ℕ) (way : sending d ≡ Some to) (text : rpc_endpoint d ≡ Some e) where
  by_parts : gateway d ≡ gateway_with d to e
  unfolding gateway
  by_parts = rw (way, text) refl

  pub gateway-so : (stored : Gateway) → stored.to ≡ to → stored.rpc_endpoint.now ≡ e → IsTrue (is_rpc_endpoint stored.rpc_endpoint.now) → Has (jobs.recovering d) (IsRecovering stored.recovering)
      → Has (gateway d) (IsGateway stored)
  gateway-so stored sent same target h = rw by_parts (go (jobs.recovering d) h)
    where
      go : (r : Option jobs.Recovering) → Has r (IsRecovering stored.recovering) → Has (option_map (λ x. record { recovering = x; to = to; rpc_endpoint = e }) r) (IsGateway stored)
      go None none = absurd none
      go (Some r) some = record { recovering = some; to = sent; rpc_endpoint = same; target = target }

  -- a request that is refused
  pub gateway-refused : (x : JobError) (r : Result Gateway JobError) → r ≡ Err x → ReadsAs IsRecovering (jobs.recovering d) (Err x) → ReadsAs IsGateway (gateway d) r
  gateway-refused NoJob r is h = rw (is, by_parts) (none-mapped _ (jobs.recovering d) h)
  gateway-refused OutOfMemory r is h = rw is tt
