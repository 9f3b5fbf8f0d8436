use Rattle.smithy_binding.proofs.Common.{rules, ◌≡◌, ap, ◌∙◌, subst, ℕ, List, [], length, true, codes, string_bytes, Result, Err, Request, IsTextOf, structure, legal_request, Fault, endpoint_or_slash, with_defaults, Answers}
use Rattle.smithy_binding.specs.Protocols.{protocol_of}
use Rattle.smithy_binding.specs.Rpc.{rpc_answer}
use Rattle.smithy_binding.proofs.RpcAnswers.{rpc-refused, rpc-posted}
use Rattle.smithy_binding.proofs.http_rpc_protocol.HttpRpcProtocol.serialize_request.Goals as goal

pub returns-in_err-body : goal.returns-in_err-body
returns-in_err-body g c =
    let ws = (goal.SerializableStruct-dyn g c.args.input.now).writes c.args.input.now.1 in
    let e = c.in_err-body.field-0.0 in
    let told : Answers {A = Request} (Err e) (rpc_answer (protocol_of g.C.Codec.text c.args.self.now) ws c.args.endpoint.now c.args.omit)
    = rpc-refused (protocol_of g.C.Codec.text c.args.self.now) ws c.args.endpoint.now c.args.omit e c.in_err-body.ensures.err in
    search rules

pub returns : goal.returns
returns g c =
    let p = c.args.self.now in
    let ws = (goal.SerializableStruct-dyn g c.args.input.now).writes c.args.input.now.1 in
    let text = g.C.Codec.text in
    let omit = c.args.omit in
    let bytes = c.in_ok-body.body in
    let codec : c.self.inside.codec ≡ p.codec = search rules in
    let content_type : c.self.inside.content_type.now ≡ p.content_type = search rules in
    let is_text = subst (λ t. IsTextOf t (structure ws) bytes) (c.in_ok-serializer.ensures.fresh.same_text ∙ ap text codec) c.in_ok-body.ensures.ok in
    let headers : c.add_defaults.new.headers ≡ with_defaults p.content_type true (length bytes) omit [] =
    c.in_ok-add_defaults.ensures ∙ ap (λ (t : List ℕ). with_defaults t true (length c.as_slice-length.result.now) omit c.new-headers.result) content_type
    ∙ ap (λ (bs : List ℕ). with_defaults p.content_type true (length bs) omit c.new-headers.result) c.as_slice-length.ensures
    ∙ ap (with_defaults p.content_type true (length bytes) omit) c.new-headers.ensures in
    let target : string_bytes c.in_ok-target.target ≡ endpoint_or_slash c.args.endpoint.now = c.in_ok-target.ensures.ok ∙ c.endpoint_or_slash.ensures in
    subst (λ (answer : Result Request Fault). Answers c.request_with.result answer)
    (ap (λ (t : List ℕ). legal_request (codes "POST") t c.add_defaults.new.headers bytes) target
    ∙ ap (λ hs. legal_request (codes "POST") (endpoint_or_slash c.args.endpoint.now) hs bytes) headers
    ∙ rpc-posted (protocol_of text p) ws c.args.endpoint.now omit bytes is_text) c.request_with.ensures
