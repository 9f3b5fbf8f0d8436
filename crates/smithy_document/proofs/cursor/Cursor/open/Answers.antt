use Rattle.smithy_document.proofs.Common.{◌≡◌, sym, ap, ◌∙◌, subst, view, mismatch, IsRefusal, document_in, parts_of, opens_as, rest_in}
use Rattle.smithy_document.proofs.CursorLemmas.{is_opened, not_opened}
use Rattle.smithy_document.proofs.cursor.Cursor.open.Goals as goal

pub returns-then-not-opens_as-clause-opens : goal.returns-then-not-opens_as-clause-opens
returns-then-not-opens_as-clause-opens c = λ tells schema.
    let d = document_in (view c.args.root.now) c.args.self.now in
    let of_document = subst (λ x. IsRefusal (mismatch c.kind_of.result x) c.mismatch.result) c.document-document.ensures c.mismatch.ensures in
    not_opened tells c.args.group schema (view c.args.root.now) c.args.self.now c.mismatch.result
    (ap (opens_as c.args.group) (sym c.document-document.ensures) ∙ sym c.opens_as.ensures ∙ c.if-not-opens_as.true)
    (subst (λ k. IsRefusal (mismatch k d) c.mismatch.result) c.kind_of.ensures of_document)

pub returns-in-Ok-push-clause-opens : goal.returns-in-Ok-push-clause-opens
returns-in-Ok-push-clause-opens c = λ tells schema.
    let names = c.in-Ok.names in
    is_opened tells c.args.group schema (view c.args.root.now) c.args.self.now c.push.new.self names
    (ap (opens_as c.args.group) (sym c.document-document.ensures) ∙ sym c.opens_as.ensures ∙ c.if-not-opens_as.false)
    (subst (λ d. rest_in d names 0 ≡ parts_of d) c.document-document.ensures c.in-Ok.ensures.all) c.in-Ok-push.ensures.pushed
