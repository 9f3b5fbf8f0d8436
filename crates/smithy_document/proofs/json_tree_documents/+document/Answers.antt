use Rattle.smithy_document.proofs.Common.{◌<◌, ◌*◌, ◌∙◌, arith, nesting, members_view, node_view}
use Rattle.smithy_document.proofs.TreeDocuments.{nested_item, ordered_item, one_more, nested_field, ordered_field, put_no_field, put_field, put_all_fields}
use Rattle.smithy_document.proofs.json_tree_documents.+document.Goals as goal

pub documents_of-document_of-requires : goal.documents_of-document_of-requires
documents_of-document_of-requires t c =
    let texts = c.args.tree.now.texts in
    let within = rw c.deref-item-items.ensures.value at c.items-test.true in
    let is = rw c.deref-item-items.ensures.value at c.item-item.is in
    let inside = nested_item (node_view texts) c.args.items.now.items c.items.item-index c.item-item.result within is in
    let below : 2 * nesting (node_view texts c.item-item.result) < t = omega (arith, inside, c.decreases) in
    (below, ordered_item (node_view texts) c.args.items.now.items c.items.item-index c.item-item.result within is c.requires)

pub documents_of-items-preserved : goal.documents_of-items-preserved
documents_of-items-preserved t c =
    let within = rw c.deref-item-items.ensures.value at c.items-test.true in
    let is = rw c.deref-item-items.ensures.value at c.item-item.is in
    rw (c.in_ok-push.ensures.ok, c.in_ok-document_of.ensures, c.items.invariant) (one_more (node_view c.args.tree.now.texts) c.args.items.now.items c.items.item-index c.item-item.result within is)

pub members_of-fields-init : goal.members_of-fields-init
members_of-fields-init t c = rw c.new-found.ensures (put_no_field c.args.tree.now.texts c.args.fields.now.items c.requires)

pub members_of-fields-preserved : goal.members_of-fields-preserved
members_of-fields-preserved t c =
    let within = rw c.deref-field-items.ensures.value at c.fields-test.true in
    let is = rw c.deref-field-items.ensures.value at c.field-item.is in
    let named = c.in_ok-name.ensures ∙ c.get.ensures in
    rw (c.in_ok-insert.ensures.ok, named, c.in_ok-member.ensures)
    (put_field c.args.tree.now.texts (members_view c.fields.found) _ c.args.fields.now.items c.fields.field-index c.field-item.result within is c.fields.invariant)

pub members_of-returns : goal.members_of-returns
members_of-returns t c = put_all_fields c.args.tree.now.texts (members_view c.fields.found) _ c.args.fields.now.items c.fields.field-index (rw c.deref-field-items.ensures.value at c.fields-test.false) c.fields.invariant

pub members_of-document_of-requires : goal.members_of-document_of-requires
members_of-document_of-requires t c =
    let texts = c.args.tree.now.texts in
    let within = rw c.deref-field-items.ensures.value at c.fields-test.true in
    let is = rw c.deref-field-items.ensures.value at c.field-item.is in
    let inside = nested_field texts c.args.fields.now.items c.fields.field-index c.field-item.result within is in
    let below : 2 * nesting (node_view texts c.field-item.result.1) < t = omega (arith, inside, c.decreases) in
    (below, ordered_field texts c.args.fields.now.items c.fields.field-index c.field-item.result within is c.requires)
