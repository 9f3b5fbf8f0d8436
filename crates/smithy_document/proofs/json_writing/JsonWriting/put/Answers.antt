use Rattle.smithy_document.proofs.Common.{false, ap, ◌∙◌, subst, label, scalar_of, scalar_document}
use Rattle.smithy_document.specs.views.JsonStanding.{LeadsOrNot}
use Rattle.smithy_document.proofs.JsonPuts.{value_put}
use Rattle.smithy_document.proofs.json_writing.JsonWriting.put.Goals as goal

pub returns-in_ok-push_scalar-in-Value-clause-put : goal.returns-in_ok-push_scalar-in-Value-clause-put
returns-in_ok-push_scalar-in-Value-clause-put c = λ b hs no_key s.
    let l = label c.args.schema in
    let leads = subst (λ o. LeadsOrNot l c.args.self.now c.lead.new.self o) c.in-Value.is c.in_ok-lead.ensures.leads in
    value_put c.args.self.now c.lead.new.self c.settle.new.self l false (scalar_document (scalar_of c.args.scalar)) b hs s (leads s.outer s.inner b s.joined s.current no_key)
    (ap (λ w. w.text.items) c.settle.ensures ∙ c.in_ok-push_scalar-in-Value.ensures) (ap (λ w. w.fields) c.settle.ensures) (ap (λ w. w.level) c.settle.ensures) c.in_ok-lead.ensures.kind
    (ap (λ w. w.around) c.settle.ensures ∙ c.in_ok-lead.ensures.around)

pub returns-in-Second-clause-put : goal.returns-in-Second-clause-put
returns-in-Second-clause-put c = subst (λ o. LeadsOrNot (label c.args.schema) c.args.self.now c.lead.new.self o) c.in-Second.is c.in_ok-lead.ensures.leads

pub returns-in-Unnamed-clause-put : goal.returns-in-Unnamed-clause-put
returns-in-Unnamed-clause-put c = subst (λ o. LeadsOrNot (label c.args.schema) c.args.self.now c.lead.new.self o) c.in-Unnamed.is c.in_ok-lead.ensures.leads
