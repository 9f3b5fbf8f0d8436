use Rattle.std.proofs.Common.{rules}
use Rattle.smithy_schema.specs.References.{schema_of}
use Rattle.smithy_serde.specs.StructValues.{members_of}
use Rattle.smithy_aws.specs.Calls.{call_of}
use Rattle.smithy_aws.proofs.CallLemmas.{call_made, call_refused}
use Rattle.smithy_aws.proofs.RequestLemmas.{without_memory}
use Rattle.smithy_aws.proofs.aws_json.AwsJson.request.Goals as goal

pub returns-in_err-present : goal.returns-in_err-present
returns-in_err-present c = without_memory _ c.from_residual.result (search rules)

pub returns-in_err-request : goal.returns-in_err-request
returns-in_err-request c =
    call_refused (call_of c.args.self.now c.args.operation) (schema_of c.args.schema) (members_of c.args.input) (members_of c.in_ok-present.present)
    c.args.endpoint.now c.args.omit c.from_residual-in_err-request.result c.in_ok-present.ensures.members c.in_err-request.field-0.0 (search rules) c.in_err-request.ensures

pub returns : goal.returns
returns c =
    call_made (call_of c.args.self.now c.args.operation) (schema_of c.args.schema) (members_of c.args.input) (members_of c.in_ok-present.present)
    c.args.endpoint.now c.args.omit c.called.result c.in_ok-present.ensures.members c.in_ok-request.request c.in_ok-request.ensures c.called.ensures
