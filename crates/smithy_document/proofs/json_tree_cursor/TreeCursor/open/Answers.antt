use Rattle.smithy_document.proofs.Common.{◌≡◌, None, true, sym, ap, ◌∙◌, subst, mismatch, IsRefusal, tree_view, opens_as, part_behind, document_at, opened_along, opened_by}
use Rattle.smithy_serde.specs.Requests.{word_of_document}
use Rattle.smithy_document.specs.views.TreePaths.{opened_at}
use Rattle.smithy_document.proofs.CursorLemmas.{opened_here, refused_here}
use Rattle.smithy_document.proofs.WayLemmas.{opened_last}
use Rattle.smithy_document.proofs.json_tree_cursor.TreeCursor.open.Goals as goal

pub returns-then-not-opens_as-clause-opens : goal.returns-then-not-opens_as-clause-opens
returns-then-not-opens_as-clause-opens c = λ schema.
    let root = tree_view c.args.tree.now in
    let d = document_at root c.args.self.now in
    let word : word_of_document d ≡ c.word.result.now = ap word_of_document (sym c.node-node.ensures) ∙ c.word.ensures c.args.tree.now.texts in
    refused_here true c.args.group schema d (opened_by root c.args.self.now) c.mismatch_of.result
    (ap (opens_as c.args.group) (sym c.node-node.ensures) ∙ sym (c.opens_as.ensures c.args.tree.now.texts) ∙ c.if-not-opens_as.true)
    (subst (λ k. IsRefusal (mismatch k d) c.mismatch_of.result) c.kind_of.ensures (c.mismatch_of.ensures d word))

pub returns-clause-opens : goal.returns-clause-opens
returns-clause-opens c = λ schema.
    let root = tree_view c.args.tree.now in
    let d = document_at root c.args.self.now in
    let ps = c.args.self.now.spots.items in
    opened_here true c.args.group schema d (document_at root (record { spots = c.push.new.self })) (opened_by root c.args.self.now) (opened_by root (record { spots = c.push.new.self }))
    (ap (opens_as c.args.group) (sym c.node-node.ensures) ∙ sym (c.opens_as.ensures c.args.tree.now.texts) ∙ c.if-not-opens_as.false)
    (ap (opened_along root) c.in_ok-push.ensures.items ∙ opened_last part_behind opened_at root ps (record { form = c.args.group; next = 0; member = None }))
