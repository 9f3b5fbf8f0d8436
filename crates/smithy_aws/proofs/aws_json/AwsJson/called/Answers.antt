use Rattle.std.proofs.Common.{rules, ◌≡◌, ◌∙◌}
use Rattle.smithy_aws.specs.Calls.{call_of}
use Rattle.smithy_aws.proofs.CallLemmas.{call_added, call_not_added}
use Rattle.smithy_aws.proofs.RequestLemmas.{without_memory}
use Rattle.smithy_aws.proofs.aws_json.AwsJson.called.Goals as goal

pub returns-in_err-target : goal.returns-in_err-target
returns-in_err-target c = without_memory _ c.from_residual.result (search rules)

pub returns-in_err-add_call_headers : goal.returns-in_err-add_call_headers
returns-in_err-add_call_headers c =
    let call = call_of c.args.self.now c.args.operation in
    let is : c.as_str.result.now ≡ call.target = search rules in
    call_not_added call c.args.request c.as_str.result.now c.headers_mut.result.now is c.headers_mut.ensures.value c.in_err-add_call_headers.field-0.0 c.from_residual-in_err-add_call_headers.result (search rules) c.in_err-add_call_headers.ensures

pub returns : goal.returns
returns c =
    let call = call_of c.args.self.now c.args.operation in
    let is : c.as_str.result.now ≡ call.target = search rules in
    call_added call c.args.request c.as_str.result.now c.headers_mut.result.now is c.headers_mut.ensures.value _ c.in_ok-add_call_headers.ensures
