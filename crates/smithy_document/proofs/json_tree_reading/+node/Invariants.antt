use Rattle.smithy_document.proofs.Common.{◌*◌, ◌+◌, depth, items_depth, members_depth, Grows}
use Rattle.smithy_json.specs.JsonView.{view, items_view, members_view}
use Rattle.smithy_document.proofs.JsonTreeLemmas.{ItemsFound, FieldsFound}
use Rattle.smithy_document.proofs.json_tree_reading.+node.Given as goal

-- arrays and objects count twice, so that a list counts between itself and its items

abbrev pub decreases-node_of : goal.decreases-node_of
decreases-node_of l = 2 * depth (view l.value.now)

abbrev pub decreases-nodes_of : goal.decreases-nodes_of
decreases-nodes_of l = 2 * items_depth (items_view l.items.now.items) + 1

abbrev pub decreases-fields_of : goal.decreases-fields_of
decreases-fields_of l = 2 * members_depth (members_view l.members.now.items) + 1

abbrev pub invariant-nodes_of-items : goal.invariant-nodes_of-items
invariant-nodes_of-items l = Grows l.fn.texts l.texts × ItemsFound l.items.items l.item-index l.found.items l.texts

abbrev pub invariant-fields_of-members : goal.invariant-fields_of-members
invariant-fields_of-members l = Grows l.fn.texts l.texts × FieldsFound l.members.items l.member-index l.found.items l.texts
