use Rattle.std.proofs.Common.{rules}
use Rattle.smithy_json.specs.JsonView.{view}
use Rattle.smithy_schema.specs.References.{schema_of}
use Rattle.smithy_serde.specs.StructValues.{members_of}
use Rattle.smithy_job.specs.AwsCallView.{call_seen}
use Rattle.smithy_model.specs.declared.floats.Floats.TheVariants.{Decimals}
use Rattle.smithy_job.specs.Jobs.{job_with_floats}
use Rattle.smithy_bind.specs.AwsRequesting.{aws_sent}
use Rattle.smithy_bind.specs.Outcome.{decimal_job_sent}
use Rattle.smithy_bind.proofs.JobLemmas.{job_sent}
use Rattle.smithy_bind.proofs.aws_requested.call_told.Goals as goal

pub returns : goal.returns
unfolding decimal_job_sent
returns c =
    job_sent (aws_sent (call_seen c.args.call)) (job_with_floats Decimals (view c.args.value.now)) c.in_ok-table.field-0 (schema_of c.in-Some.schema) (members_of c.with_writes-input.result) c.input_told.result c.in_ok-table.ensures c.in-Some.ensures.node (search rules) c.input_told.ensures
