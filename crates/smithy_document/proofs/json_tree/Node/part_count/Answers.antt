use Rattle.smithy_document.proofs.Common.{◌∙◌}
use Rattle.smithy_document.proofs.NodeLemmas.{counted, array_parts, object_parts}
use Rattle.smithy_document.proofs.json_tree.Node.part_count.Goals as goal

pub returns-in-Array : goal.returns-in-Array
returns-in-Array c = λ texts. c.len.ensures ∙ c.in-Array.items.ok.0 ∙ counted _ _ _ (array_parts texts _ _ c.in-Array.is)

pub returns-in-Object : goal.returns-in-Object
returns-in-Object c = λ texts. c.len-in-Object.ensures ∙ c.in-Object.fields.ok.0 ∙ counted _ _ _ (object_parts texts _ _ c.in-Object.is)
