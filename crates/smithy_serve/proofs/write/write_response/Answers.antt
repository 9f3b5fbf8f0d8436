use Rattle.std.proofs.Common.{rules, ap, sym, ◌∙◌, Ok, Err}
use Rattle.smithy_http.specs.Responses.{Response}
use Rattle.smithy_schema.specs.References.{schema_of}
use Rattle.smithy_serde.specs.Values.{list_of}
use Rattle.smithy_binding.specs.Protocols.{protocol_of}
use Rattle.smithy_binding.specs.Refusing.{Answers}
use Rattle.smithy_binding.proofs.Refusals.{TellsFault-then}
use Rattle.smithy_serve.specs.Answer.{answer_response}
use Rattle.smithy_serve.proofs.Codes.{placed-status, answer-ok, answer-err}
use Rattle.smithy_serve.proofs.write.write_response.Goals as goal

pub response_of-requires-clause-own : goal.response_of-requires-clause-own
response_of-requires-clause-own g c =
    placed-status (protocol_of g.C.Codec.text c.args.protocol.now) (schema_of c.args.schema) (list_of ((goal.SerializableStruct-dyn g c.args.output.now).writes c.args.output.now.1)) c.in_ok-placed.placed c.in_ok-placed.ensures

pub returns-in_err-placed : goal.returns-in_err-placed
returns-in_err-placed g c =
    let ws = list_of ((goal.SerializableStruct-dyn g c.args.output.now).writes c.args.output.now.1) in
    let p = protocol_of g.C.Codec.text c.args.protocol.now in
    let e = c.in_err-placed.field-0.0 in
    let told : Answers {A = Response} (Err e) (answer_response p (schema_of c.args.schema) ws c.args.code) = TellsFault-then e _ _ (λ f h. answer-err p (schema_of c.args.schema) ws c.args.code f h) c.in_err-placed.ensures in
    search rules

pub returns : goal.returns
returns g c =
    let ws = list_of ((goal.SerializableStruct-dyn g c.args.output.now).writes c.args.output.now.1) in
    let p = protocol_of g.C.Codec.text c.args.protocol.now in
    answer-ok p (schema_of c.args.schema) ws c.args.code c.in_ok-placed.placed c.in_ok-placed.ensures ∙ ap (λ (r : Response). Ok r) (sym c.response_of.ensures)
