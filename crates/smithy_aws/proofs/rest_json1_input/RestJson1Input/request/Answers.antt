use Rattle.std.proofs.Common.{rules, sym}
use Rattle.smithy_schema.specs.References.{schema_of}
use Rattle.smithy_serde.specs.StructValues.{members_of}
use Rattle.smithy_aws.specs.Inputs.{input_of}
use Rattle.smithy_aws.specs.views.ReadyInputs.{present_writes, ready_writes}
use Rattle.smithy_aws.proofs.RequestLemmas.{without_memory}
use Rattle.smithy_aws.proofs.RestLemmas.{coded_given, raw_given}
use Rattle.smithy_aws.proofs.rest_json1_input.RestJson1Input.request.Goals as goal

pub returns-in_err-ready : goal.returns-in_err-ready
returns-in_err-ready c = without_memory _ c.from_residual.result (search rules)

pub raw_request-requires : goal.raw_request-requires
raw_request-requires c = sym c.in-Some.ensures

pub returns-in-Some : goal.returns-in-Some
returns-in-Some c =
    let ready = c.in_ok-ready.ready in
    raw_given (input_of c.args.self.now) (members_of c.args.input) (ready_writes ready) (present_writes ready) c.args.endpoint.now c.args.omit c.raw_request.result
    c.in_ok-ready.ensures.ready c.in_ok-ready.ensures.present (schema_of c.in-Some.payload) c.in-Some.ensures c.raw_request.ensures

pub returns : goal.returns
returns c =
    let ready = c.in_ok-ready.ready in
    coded_given (input_of c.args.self.now) (members_of c.args.input) (ready_writes ready) (present_writes ready) c.args.endpoint.now c.args.omit c.followed.result
    c.in_ok-ready.ensures.ready c.in_ok-ready.ensures.present c.in-None.ensures c.followed.ensures
