use Rattle.smithy_document.proofs.Common.{ap, ◌∙◌, Some, min}
use Rattle.smithy_document.proofs.NodeLemmas.{sized-Array, sized-Object}
use Rattle.smithy_document.proofs.json_tree.Node.container_size.Goals as goal

pub returns-in-Array : goal.returns-in-Array
returns-in-Array c = λ texts. ap Some (c.capped_container_size.ensures ∙ ap (λ l. min l 10000) (c.len.ensures ∙ c.in-Array.items.ok.0)) ∙ sized-Array texts _ _ c.in-Array.is

pub returns-in-Object : goal.returns-in-Object
returns-in-Object c = λ texts. ap Some (c.capped_container_size-in-Object.ensures ∙ ap (λ l. min l 10000) (c.len-in-Object.ensures ∙ c.in-Object.fields.ok.0)) ∙ sized-Object texts _ _ c.in-Object.is
