use Rattle.std.proofs.Common.{rules}
use Rattle.smithy_serde.specs.Values.{list_of}
use Rattle.smithy_aws.specs.Inputs.{input_of}
use Rattle.smithy_aws.specs.Requests.{body_followed, placed}
use Rattle.smithy_aws.specs.views.ReadyInputs.{present_writes, ready_writes}
use Rattle.smithy_aws.proofs.RequestLemmas.{not_tried, tried}
use Rattle.smithy_aws.proofs.rest_json1_input.RestJson1Input.followed.Goals as goal

pub returns-in_err-request : goal.returns-in_err-request
returns-in_err-request c =
    let s = input_of c.args.self.now in
    let ready = c.args.ready.now in
    not_tried (placed s (list_of (ready_writes ready)) c.args.endpoint.now c.args.omit) (body_followed s (present_writes ready)) c.in_err-request.field-0.0 c.from_residual.result (search rules) c.in_err-request.ensures

pub returns : goal.returns
returns c =
    let s = input_of c.args.self.now in
    let ready = c.args.ready.now in
    tried (placed s (list_of (ready_writes ready)) c.args.endpoint.now c.args.omit) (body_followed s (present_writes ready)) c.in_ok-request.request c.body_followed.result c.in_ok-request.ensures
    (rw c.present.ensures at c.body_followed.ensures)
