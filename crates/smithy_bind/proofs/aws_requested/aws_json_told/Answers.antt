use Rattle.smithy_schema.specs.References.{schema_of}
use Rattle.smithy_serde.specs.StructValues.{members_of}
use Rattle.smithy_job.specs.AwsCallView.{json_call_seen}
use Rattle.smithy_bind.specs.AwsRequesting.{call_by}
use Rattle.smithy_bind.proofs.AwsLemmas.{call_sent}
use Rattle.smithy_bind.proofs.aws_requested.aws_json_told.Goals as goal

pub returns : goal.returns
returns c =
    call_sent (schema_of c.args.schema) (members_of c.args.input) c.args.endpoint.now c.args.omit (call_by c.args.version (json_call_seen c.args.call)) c.told.result (c.told.ensures _ c.request.ensures)
