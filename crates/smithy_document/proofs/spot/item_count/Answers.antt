use Rattle.smithy_document.proofs.Common.{sym, ◌∙◌}
use Rattle.smithy_document.proofs.PathLemmas.{count_nameless}
use Rattle.smithy_document.proofs.spot.item_count.Goals as goal

pub returns : goal.returns
returns c = c.len.ensures ∙ sym (count_nameless _)
