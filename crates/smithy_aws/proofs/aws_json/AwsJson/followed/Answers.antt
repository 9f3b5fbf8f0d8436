use Rattle.std.proofs.Common.{rules}
use Rattle.smithy_schema.specs.References.{schema_of}
use Rattle.smithy_serde.specs.StructValues.{members_of}
use Rattle.smithy_aws.specs.Requests.{posted, whole_followed}
use Rattle.smithy_aws.proofs.RequestLemmas.{not_tried, tried}
use Rattle.smithy_aws.proofs.aws_json.AwsJson.followed.Goals as goal

pub returns-in_err-request : goal.returns-in_err-request
returns-in_err-request c =
    let s = schema_of c.args.schema in
    let ws = members_of c.args.input.now in
    not_tried (posted c.args.self.now.version s ws c.args.endpoint.now c.args.omit) (whole_followed s ws) c.in_err-request.field-0.0 c.from_residual.result (search rules) c.in_err-request.ensures

pub returns : goal.returns
returns c =
    let s = schema_of c.args.schema in
    let ws = members_of c.args.input.now in
    tried (posted c.args.self.now.version s ws c.args.endpoint.now c.args.omit) (whole_followed s ws) c.in_ok-request.request c.whole_followed.result c.in_ok-request.ensures c.whole_followed.ensures
