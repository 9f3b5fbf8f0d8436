use Rattle.std.proofs.Common.{rules, ◌≡◌, ap, sym, ◌∙◌, Ok, Err}
use Rattle.smithy_http.specs.Requests.{Request}
use Rattle.smithy_schema.specs.References.{schema_of}
use Rattle.smithy_serde.specs.Values.{list_of}
use Rattle.smithy_binding.proofs.Refusals.{TellsFault-then}
use Rattle.smithy_wire.specs.Misfits.{body_misfit_told}
use Rattle.smithy_aws.specs.Inputs.{input_followed, input_of, raw_input}
use Rattle.smithy_aws.specs.Requests.{rest_json1}
use Rattle.smithy_aws.specs.views.ReadyInputs.{present_writes, ready_writes}
use Rattle.smithy_aws.proofs.RawLemmas.{raw_made, raw_refused, unmeasured}
use Rattle.smithy_aws.proofs.RequestLemmas.{passed_on, without_memory}
use Rattle.smithy_aws.proofs.rest_json1_input.RestJson1Input.raw_request.Goals as goal

pub returns-in_err-request : goal.returns-in_err-request
returns-in_err-request c =
    let s = input_of c.args.self.now in
    let m = schema_of c.args.payload in
    let ws = list_of (ready_writes c.args.ready.now) in
    let refusal = body_misfit_told s (present_writes c.args.ready.now) in
    let e = c.in_err-request.field-0.0 in
    passed_on (raw_input c.args.self.now c.args.payload c.args.ready.now c.args.endpoint.now c.args.omit) e c.from_residual.result (search rules)
    (TellsFault-then e (λ f. input_followed c.args.self.now c.args.ready.now c.args.endpoint.now (unmeasured c.args.omit) ≡ Err f) _
    (λ f is. raw_refused (rest_json1 s) s m ws c.args.endpoint.now c.args.omit refusal c.requires f is) c.in_err-request.ensures)

pub returns-in_err-with_type : goal.returns-in_err-with_type
returns-in_err-with_type c = without_memory _ c.from_residual-in_err-with_type.result (search rules)

pub returns : goal.returns
returns c =
    let s = input_of c.args.self.now in
    let refusal = body_misfit_told s (present_writes c.args.ready.now) in
    raw_made (rest_json1 s) s (schema_of c.args.payload) (list_of (ready_writes c.args.ready.now)) c.args.endpoint.now c.args.omit refusal c.requires c.in_ok-request.request c.in_ok-request.ensures
    ∙ ap (λ (r : Request). Ok r) (sym c.in_ok-with_type.ensures)
