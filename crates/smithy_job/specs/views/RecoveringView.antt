-- The job of a request that the code's one stands for.
use Rattle.std.specs.Prelude.{◌≡◌, Some}
use Rattle.smithy_schema.specs.Nodes.{at_place}
use Rattle.smithy_job.specs.Recovering as jobs
use Rattle.smithy_job.specs.declared.recovering.Recovering.{Recovering}

pub record IsRecovering (stored : Recovering) (is : jobs.Recovering) : Type 0 where
  pub request : stored.request ≡ is.request
  pub schema : at_place stored.table stored.index.0 ≡ Some is.schema
  pub endpoint : stored.endpoint.now ≡ is.endpoint
  pub omit : stored.omit ≡ is.omit
