use Rattle.smithy_document.proofs.Common.{◌≡◌, Some, None, refl, sym, ap, ◌∙◌, subst, result_err, put_named, label, document_fault_text, no_member_name}
use Rattle.std.specs.Option.{option_copied}
use Rattle.smithy_document.specs.views.JsonStanding.{LeadsTo}
use Rattle.smithy_document.proofs.JsonLeads.{top_leads, second_refused, items_lead, fields_lead, unnamed_refused, entries_lead}
use Rattle.smithy_document.proofs.json_writing.JsonWriting.lead.Goals as goal

pub returns-then-self-clause-leads : goal.returns-then-self-clause-leads
returns-then-self-clause-leads c = (refl, λ inner b h no_key struct d. second_refused c.args.self.now.level inner b (label c.args.schema).member_name (label c.args.schema).full_name struct d c.in-Top.is c.if-self.true h)

pub returns-else-self-clause-leads : goal.returns-else-self-clause-leads
returns-else-self-clause-leads c = λ outer inner b j h no_key. top_leads c.args.self.now outer inner (label c.args.schema).member_name b c.in-Top.is c.if-self.false j h

pub returns-in_ok-push_comma-in-Items-clause-leads : goal.returns-in_ok-push_comma-in-Items-clause-leads
returns-in_ok-push_comma-in-Items-clause-leads c = λ outer inner b j h no_key. items_lead c.args.self.now _ outer inner (label c.args.schema).member_name b c.in-Items.is j h c.in_ok-push_comma-in-Items.ensures refl refl

pub returns-in_ok-name-in-Some-clause-leads : goal.returns-in_ok-name-in-Some-clause-leads
returns-in_ok-name-in-Some-clause-leads c = λ outer inner b j h no_key.
    let named : (label c.args.schema).member_name ≡ Some c.in-Some.name.now = sym c.member_name.ensures ∙ ap option_copied c.in-Some.is in
    subst (λ name. LeadsTo c.name.new.self outer name b) (sym named) (fields_lead c.args.self.now c.name.new.self outer inner c.in-Some.name.now b c.in-Fields.is j h c.in_ok-name-in-Some.ensures.named)

pub returns-in-None-clause-leads : goal.returns-in-None-clause-leads
returns-in-None-clause-leads c = (
  refl,
  λ inner b h no_key struct d.
      let full = (label c.args.schema).full_name in
      let named : (label c.args.schema).member_name ≡ None = sym c.member_name.ensures ∙ ap option_copied c.in-None.is in
      subst (λ name. result_err (put_named name full struct d b) ≡ Some (document_fault_text (no_member_name full))) (sym named) (unnamed_refused c.args.self.now.level inner b full struct d c.in-Fields.is h),
)

pub returns-in-Entries-clause-leads : goal.returns-in-Entries-clause-leads
returns-in-Entries-clause-leads c = λ outer inner b j h no_key. entries_lead c.args.self.now outer inner (label c.args.schema).member_name b c.in-Entries.is no_key j h
