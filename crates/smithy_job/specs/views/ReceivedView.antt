-- The job of a response that the code's one stands for.
use Rattle.std.specs.Prelude.{◌≡◌, Option, Some, Result}
use Rattle.smithy_schema.specs.Nodes.{Table, at_place}
use Rattle.smithy_model.specs.Nodes.{Errors}
use Rattle.smithy_model.specs.views.PlacedView.{StandAt}
use Rattle.smithy_model.specs.declared.error.JobError.{JobError}
use Rattle.smithy_job.specs.Jobs as jobs
use Rattle.smithy_job.specs.views.Tables.{ReadsAs}
use Rattle.smithy_job.specs.declared.received.CodedError.{CodedError}
use Rattle.smithy_job.specs.declared.received.Expected.{Expected}
use Rattle.smithy_job.specs.declared.received.Expected.TheVariants.{Output, Error, Coded}
use Rattle.smithy_job.specs.declared.received.ExpectedIn.{ExpectedIn}
use Rattle.smithy_job.specs.declared.received.Message.{Message}
use Rattle.smithy_job.specs.declared.received.Received.{Received}

pub record IsCoded (table : Table) (stored : CodedError) (errors : Errors) : Type 0 where
  pub operation : StandAt table stored.operation.items errors.operation
  pub service : StandAt table stored.service.items errors.service

-- by the schemas that stand at these indexes of a table
abbrev pub IsExpected : Table → Expected → jobs.Expected → Type 0
IsExpected table (Output index) (jobs.output schema) = at_place table index.0 ≡ Some schema
IsExpected table (Error index) (jobs.error schema) = at_place table index.0 ≡ Some schema
IsExpected table (Coded stored) (jobs.coded code errors) = (stored.code.now ≡ code) × IsCoded table stored errors
IsExpected table _ _ = ⊥

abbrev pub message_seen : Message → jobs.Message
message_seen m = record { response = m.response; policy = m.policy }

abbrev pub IsExpectedIn : ExpectedIn → jobs.Expected → Type 0
IsExpectedIn stored is = IsExpected stored.table stored.expected is

abbrev pub ReadsExpected : Option jobs.Expected → Result ExpectedIn JobError → Type 0
ReadsExpected expected result = ReadsAs IsExpectedIn expected result

pub record IsReceived (stored : Received) (is : jobs.Received) : Type 0 where
  pub response : stored.response ≡ is.response
  pub policy : stored.policy ≡ is.policy
  pub expected : IsExpected stored.table stored.expected is.expected
