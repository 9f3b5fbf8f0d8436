use Rattle.smithy_document.proofs.Common.{◌*◌, ◌+◌, map, nesting, items_nesting, members_nesting, list_of_members, view, items_view, members_view, node_view, Grows}
use Rattle.smithy_document.proofs.DocumentTrees.{Found, ItemsOrdered, MembersLeft, items_from}
use Rattle.smithy_document.proofs.TreeDocuments.{field_view}
use Rattle.smithy_document.proofs.document_tree.+document_node.Given as goal

-- arrays and objects count twice, so that a list counts between itself and its items

abbrev pub decreases-node_of : goal.decreases-node_of
decreases-node_of l = 2 * nesting (view l.document.now)

abbrev pub decreases-nodes_of : goal.decreases-nodes_of
decreases-nodes_of l = 2 * items_nesting (items_view l.documents.now) + 1

abbrev pub decreases-fields_of : goal.decreases-fields_of
decreases-fields_of l = 2 * members_nesting (members_view l.members.now) + 1

abbrev pub invariant-nodes_of-items : goal.invariant-nodes_of-items
invariant-nodes_of-items l =
    Grows l.fn.texts l.texts × Found node_view (items_from l.items l.item-index) (map view l.items) l.found.items l.texts
    × (ItemsOrdered (items_from l.items l.item-index) → ItemsOrdered (map view l.items))

abbrev pub invariant-fields_of-members : goal.invariant-fields_of-members
invariant-fields_of-members l =
    Grows l.fn.texts l.texts × Found field_view l.name-iterator (list_of_members (members_view l.members)) l.found.items l.texts × MembersLeft l.name-iterator (members_view l.members)
