use Rattle.smithy_binding.proofs.Common.{rules, ◌≡◌, sym, ◌∙◌, subst, Result, Some, IfErr, map, string_bytes, schema_of, writes_in, list_of, Request, Fault, bound_fault, filled_fault, Protocol, message_fault, directed_schema, TellsFault, Answers, label_pair, target_with}
use Rattle.smithy_binding.specs.declared.direction.Direction.TheVariants as direction
use Rattle.smithy_binding.proofs.CheckedMethods.{is_token-method_of}
use Rattle.smithy_binding.proofs.Ends.{answer-message, answer-filled, answer-is, same_request}
use Rattle.smithy_binding.proofs.PlacedKinds.{placed-kinds}
use Rattle.smithy_binding.proofs.Refusals.{Answers-err}
use Rattle.smithy_binding.proofs.place.place_writes.Goals as goal

pub place_message-requires-clause-kinds : goal.place_message-requires-clause-kinds
place_message-requires-clause-kinds g c = placed-kinds (schema_of c.args.plan.schema) c.requires.checked

pub returns-in_err-message-clause-answer : goal.returns-in_err-message-clause-answer
returns-in_err-message-clause-answer g c =
    let schema = schema_of c.args.plan.schema in
    let ws = list_of (writes_in c.args.table.now c.args.writes.now) in
    let told : IfErr c.from_residual.result (λ e. TellsFault e (λ f. message_fault bound_fault (directed_schema direction.Request schema) ws ≡ Some f)) = search rules in
    Answers-err c.from_residual.result _ _ (search rules) (λ f e. answer-message _ schema ws c.args.plan.endpoint.now _ f e) told

pub returns-in_err-target-clause-answer : goal.returns-in_err-target-clause-answer
returns-in_err-target-clause-answer g c =
    let message = c.in_ok-message.ensures.ok in
    let told : IfErr c.from_residual-in_err-target.result (λ e. TellsFault e (λ f. filled_fault (target_with c.uri_template-template.result.text.now (map label_pair c.as_slice.result.now) c.as_str.result.now) ≡ Some f)) = search rules in
    Answers-err c.from_residual-in_err-target.result _ _ (search rules)
    (λ f e. answer-filled _ (schema_of c.args.plan.schema) _ c.args.plan.endpoint.now _ _ _ message.faultless message.labels message.query f
    (rw (c.uri_template-template.ensures, c.as_slice.ensures.value, c.as_str.ensures.value) at e)) told

pub request_with-requires : goal.request_with-requires
request_with-requires g c = rw c.method_of.ensures (is_token-method_of (schema_of c.args.plan.schema) c.requires.checked)

pub returns-clause-answer : goal.returns-clause-answer
returns-clause-answer g c =
    let message = c.in_ok-message.ensures.ok in
    let target = rw (c.uri_template-template.ensures, c.as_slice.ensures.value, c.as_str.ensures.value) at c.in_ok-target.ensures.ok in
    let protocol : Protocol = record { content_type = c.args.plan.content_type.now; text_of = (g.S.ShapeSerializer.seen c.args.serializer).text } in
    subst (λ (answer : Result Request Fault). Answers c.request_with.result answer)
    (same_request _ _ (string_bytes c.in_ok-target.target) _ _ _ _ c.method_of.ensures message.headers message.body
    ∙ sym (answer-is protocol (schema_of c.args.plan.schema) _ c.args.plan.endpoint.now c.args.plan.omit _ _ message.faultless message.labels message.query _ target))
    c.request_with.ensures
