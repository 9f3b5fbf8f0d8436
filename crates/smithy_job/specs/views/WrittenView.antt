-- The writes that the code's ones stand for.
use Rattle.std.specs.Prelude.{◌≡◌, ◌≤◌, Some, unwrap_or}
use Rattle.smithy_schema.specs.Nodes.{Table, at_place}
use Rattle.smithy_serde.specs.Values.{list_of}
use Rattle.smithy_serde.specs.StoredValues.{AreDefined, HasNode, writes_in}
use Rattle.smithy_job.specs.Jobs as jobs
use Rattle.smithy_job.specs.Answering as answering
use Rattle.smithy_job.specs.declared.written.Written.{Written}
use Rattle.smithy_job.specs.declared.answering.Answering.{Answering}

-- the nodes of the writes
abbrev pub nodes_in : Written → Table
nodes_in w = unwrap_or w.further w.table

pub record IsWritten (stored : Written) (is : jobs.Written) : Type 0 where
  pub schema : at_place stored.table stored.index.0 ≡ Some is.schema
  pub writes : list_of (writes_in (nodes_in stored) stored.writes) ≡ is.writes
  -- the nodes of the writes have that of the schema, and each that the writes name
  pub node : HasNode (nodes_in stored) stored.index.0
  pub defined : AreDefined (nodes_in stored) stored.writes

pub record IsAnswering (stored : Answering) (is : answering.Answering) : Type 0 where
  pub output : IsWritten stored.output is.output
  pub code : stored.code ≡ is.code
  -- three digits
  pub digits : (100 ≤ stored.code) × (stored.code ≤ 999)
