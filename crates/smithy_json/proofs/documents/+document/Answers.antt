use Rattle.smithy_types.specs.DocumentView.{view as document_view, items_view as documents_view}
use Rattle.smithy_json.proofs.DocumentLemmas.{items_more, items_end}
use Rattle.smithy_json.proofs.documents.+document.Goals as goal

pub documents_of-loop-item-preserved : goal.documents_of-loop-item-preserved
documents_of-loop-item-preserved t c =
    rw c.in_ok-push.ensures.ok
    (items_more (documents_view c.loop-item.found) (document_view c.in_ok-document_of.field-0) c.args.items.now.items c.loop-item.item-index c.item-item.result _ (rw c.deref-item-items.ensures.value at c.loop-item-test.true) (rw c.deref-item-items.ensures.value at c.item-item.is) c.in_ok-document_of.ensures c.loop-item.invariant)

pub documents_of-returns : goal.documents_of-returns
documents_of-returns t c = items_end (documents_view c.loop-item.found) c.args.items.now.items c.loop-item.item-index _ (rw c.deref-item-items.ensures.value at c.loop-item-test.false) c.loop-item.invariant
