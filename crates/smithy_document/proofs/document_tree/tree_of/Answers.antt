use Rattle.std.proofs.Common.{append-nil}
use Rattle.smithy_document.proofs.Common.{sym, ap, ◌∙◌, [], node_view}
use Rattle.smithy_document.proofs.document_tree.tree_of.Goals as goal

pub returns-clause-is : goal.returns-clause-is
returns-clause-is c = ap (λ ts. node_view ts c.in_ok-root.root) (sym (append-nil c.node_of.new.texts)) ∙ c.in_ok-root.ensures.is []
