use Rattle.smithy_document.proofs.Common.{ap, ◌∙◌, tree_view, path_end}
use Rattle.smithy_document.proofs.json_tree_cursor.TreeCursor.node.Goals as goal

pub returns : goal.returns
returns c = c.node_at.ensures ∙ ap (path_end (tree_view c.args.tree.now)) c.as_slice.ensures.value
