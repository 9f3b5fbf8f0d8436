use Rattle.smithy_schema.specs.References.{schema_of}
use Rattle.smithy_serde.specs.StructValues.{members_of}
use Rattle.smithy_aws.specs.Inputs.{input_of}
use Rattle.smithy_bind.proofs.AwsLemmas.{not_taken, taken_sent}
use Rattle.smithy_bind.proofs.aws_requested.rest_json1_told.Goals as goal

pub returns-in_default : goal.returns-in_default
returns-in_default c = not_taken (schema_of c.args.schema) (members_of c.args.input) c.args.endpoint.now c.args.omit (rw c.in_default.is at c.in_ok-by.ensures)

pub returns : goal.returns
returns c =
    taken_sent (schema_of c.args.schema) (members_of c.args.input) c.args.endpoint.now c.args.omit (input_of c.in-Some.by) c.told.result (rw c.in-Some.is at c.in_ok-by.ensures) (c.told.ensures _ c.request.ensures)
