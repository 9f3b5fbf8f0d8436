-- The job of a request that is sent on that the code's one stands for.
use Rattle.std.specs.Prelude.{◌≡◌, IsTrue}
use Rattle.smithy_job.specs.Gateway as jobs
use Rattle.smithy_job.specs.Settings.{is_rpc_endpoint}
use Rattle.smithy_job.specs.views.RecoveringView.{IsRecovering}
use Rattle.smithy_job.specs.declared.gateway.Gateway.{Gateway}

pub record IsGateway (stored : Gateway) (is : jobs.Gateway) : Type 0 where
  pub recovering : IsRecovering stored.recovering is.recovering
  pub to : stored.to ≡ is.to
  pub rpc_endpoint : stored.rpc_endpoint.now ≡ is.rpc_endpoint
  pub target : IsTrue (is_rpc_endpoint stored.rpc_endpoint.now)
