use Rattle.smithy_document.proofs.Common.{◌≡◌, [], ◌∷◌, ◌++◌, length, refl, ap, ◌∙◌, label}
use Rattle.smithy_document.specs.views.JsonStanding.{group_kind, level_of}
use Rattle.smithy_document.proofs.JsonBegins.{group_begins}
use Rattle.smithy_document.proofs.json_writing.JsonWriting.begin.Goals as goal

pub returns-clause-begins : goal.returns-clause-begins
returns-clause-begins c =
    let mid = c.lead_group.new.self in
    let start : c.len-start.result ≡ length mid.text.items = c.len-start.ensures ∙ mid.text.ok.0 in
    let level : c.of-self.result ≡ level_of (group_kind c.args.group) (length mid.text.items) (length mid.fields.list.items) = c.of-self.ensures ∙ (λ i. level_of (c.kind_inside.ensures i) (start i) (c.len.ensures i)) in
    group_begins (label c.args.schema) c.args.group c.args.self.now (record c.args.self.now { around = c.try_reserve.new.self }) mid _ _ refl refl refl
    (ap (λ v. v.items) c.in_ok-refused.ensures.around ∙ c.in_ok-try_reserve.ensures.items) c.in_ok-refused.ensures.leads c.in_ok-refused.ensures.kind
    (c.in_ok-push.ensures.items ∙ ap (λ b. mid.text.items ++ b ∷ []) c.opening.ensures) refl c.push_reserved.ensures.items level
