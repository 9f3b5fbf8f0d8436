use Rattle.smithy_response.proofs.Common.{sym, subst, ◌∙◌, err_from_is_err_and, schema_of, element_refusal, IsRefusal, header_of}
use Rattle.smithy_response.proofs.Containers.{element_refused, none_list}
use Rattle.smithy_response.proofs.parts.HeaderAtHand.open.Goals as goal

pub returns-then-is_some-clause-opens : goal.returns-then-is_some-clause-opens
returns-then-is_some-clause-opens c =
    let refused = subst (λ k. IsRefusal (element_refusal k) c.element_refusal.result) c.opened_type.ensures c.element_refusal.ensures in
    λ below. element_refused (schema_of c.args.schema) c.element_refusal.result c.args.group refused (header_of c.args.response.now c.args.self.now.name) below c.args.self.now.list c.if-is_some.ensures

pub returns-in_err-list-clause-opens : goal.returns-in_err-list-clause-opens
returns-in_err-list-clause-opens c =
    let p = err_from_is_err_and c.from_residual.result c.from_residual.ensures.1 in
    let none = none_list c.args.self.now.list (sym c.is_some.ensures ∙ c.if-is_some.false) in
    λ below. rw (p.1, p.2, none, sym c.as_str.ensures) (c.in_err-list.ensures below)
