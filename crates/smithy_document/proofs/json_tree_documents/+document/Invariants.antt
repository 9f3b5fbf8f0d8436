use Rattle.smithy_document.proofs.Common.{◌≡◌, ◌*◌, ◌+◌, drop, take, nesting, items_nesting, members_nesting, items_view, members_view, node_view, nodes_view, fields_view}
use Rattle.smithy_document.proofs.TreeDocuments.{put_fields}
use Rattle.smithy_document.proofs.json_tree_documents.+document.Given as goal

-- arrays and objects count twice, so that a list counts between itself and its items

abbrev pub decreases-document_of : goal.decreases-document_of
decreases-document_of l = 2 * nesting (node_view l.tree.now.texts l.node.now)

abbrev pub decreases-documents_of : goal.decreases-documents_of
decreases-documents_of l = 2 * items_nesting (nodes_view l.tree.now.texts l.items.now.items) + 1

abbrev pub decreases-members_of : goal.decreases-members_of
decreases-members_of l = 2 * members_nesting (fields_view l.tree.now.texts l.fields.now.items) + 1

abbrev pub invariant-documents_of-items : goal.invariant-documents_of-items
invariant-documents_of-items l = items_view l.found ≡ nodes_view l.tree.texts (take l.item-index l.items.items)

abbrev pub invariant-members_of-fields : goal.invariant-members_of-fields
invariant-members_of-fields l = put_fields l.tree.texts (drop l.field-index l.fields.items) (members_view l.found) ≡ fields_view l.tree.texts l.fields.items
