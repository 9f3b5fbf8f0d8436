use Rattle.smithy_document.proofs.Common.{◌≡◌, take, node_view, tree_view, path_end}
use Rattle.smithy_document.proofs.json_tree_cursor.node_at.Given as goal

abbrev pub invariant-loop-spot : goal.invariant-loop-spot
invariant-loop-spot l = node_view l.tree.texts l.node ≡ path_end (tree_view l.tree) (take l.spot-index l.path)
