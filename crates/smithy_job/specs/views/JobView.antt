-- The job that the code's one stands for.
use Rattle.std.specs.Prelude.{◌≡◌, Some, unwrap_or}
use Rattle.smithy_schema.specs.Nodes.{Table, at_place}
use Rattle.smithy_serde.specs.Values.{list_of}
use Rattle.smithy_serde.specs.StoredValues.{AreDefined, HasNode, writes_in}
use Rattle.smithy_job.specs.Jobs as jobs
use Rattle.smithy_job.specs.declared.reading.Job.{Job}

-- the nodes of the writes
abbrev pub nodes_of : Job → Table
nodes_of j = unwrap_or j.further j.table

pub record IsJob (stored : Job) (is : jobs.Job) : Type 0 where
  pub schema : at_place stored.table stored.index.0 ≡ Some is.schema
  pub writes : list_of (writes_in (nodes_of stored) stored.writes) ≡ is.writes
  pub endpoint : stored.endpoint.now ≡ is.endpoint
  pub omit : stored.omit ≡ is.omit
  -- the nodes of the writes have that of the schema, and each that the writes name
  pub node : HasNode (nodes_of stored) stored.index.0
  pub defined : AreDefined (nodes_of stored) stored.writes
