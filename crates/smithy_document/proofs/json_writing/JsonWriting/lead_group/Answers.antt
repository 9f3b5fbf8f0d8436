use Rattle.smithy_document.proofs.Common.{Some, sym, ◌∙◌, subst, result_err, texted, label, second_value_text, document_fault_text, no_member_name, IsRefusedFor}
use Rattle.smithy_document.specs.views.JsonStanding.{LeadsOrNot}
use Rattle.smithy_document.proofs.JsonBegins.{group_led, group_refused, group_as_key}
use Rattle.smithy_document.proofs.json_writing.JsonWriting.lead_group.Goals as goal

pub returns-then-wants_key-clause-leads : goal.returns-then-wants_key-clause-leads
returns-then-wants_key-clause-leads c =
    group_as_key (label c.args.schema) c.args.group c.args.self.now c.not_a_text.result (λ b inner h. sym c.if-wants_key.true ∙ c.wants_key.ensures b inner h)
    (subst (λ r. IsRefusedFor (result_err (texted r)) c.not_a_text.result) (sym c.group_word.ensures) c.not_a_text.ensures)

pub returns-in-Value-clause-leads : goal.returns-in-Value-clause-leads
returns-in-Value-clause-leads c =
    let l = label c.args.schema in
    group_led l c.args.group c.args.self.now c.lead.new.self (λ b inner h. sym c.if-wants_key.false ∙ c.wants_key.ensures b inner h)
    (subst (λ o. LeadsOrNot l c.args.self.now c.lead.new.self o) c.in-Value.is c.in_ok-lead.ensures.leads)

pub returns-in-Second-clause-leads : goal.returns-in-Second-clause-leads
returns-in-Second-clause-leads c =
    let l = label c.args.schema in
    group_refused l c.args.group c.args.self.now c.lead.new.self second_value_text c.second_value.result (λ b inner h. sym c.if-wants_key.false ∙ c.wants_key.ensures b inner h)
    (subst (λ o. LeadsOrNot l c.args.self.now c.lead.new.self o) c.in-Second.is c.in_ok-lead.ensures.leads) c.second_value.ensures

pub returns-in-Unnamed-clause-leads : goal.returns-in-Unnamed-clause-leads
returns-in-Unnamed-clause-leads c =
    let l = label c.args.schema in
    let told = subst (λ full. IsRefusedFor (Some (document_fault_text (no_member_name full))) c.no_member_name.result) c.full_name_of.ensures c.no_member_name.ensures in
    group_refused l c.args.group c.args.self.now c.lead.new.self (document_fault_text (no_member_name l.full_name)) c.no_member_name.result (λ b inner h. sym c.if-wants_key.false ∙ c.wants_key.ensures b inner h)
    (subst (λ o. LeadsOrNot l c.args.self.now c.lead.new.self o) c.in-Unnamed.is c.in_ok-lead.ensures.leads) told
