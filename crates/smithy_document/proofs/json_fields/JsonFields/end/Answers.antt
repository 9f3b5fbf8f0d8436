use Rattle.smithy_document.proofs.Common.{◌∙◌}
use Rattle.smithy_document.proofs.JsonOrder.{end_before_next, end_of_all}
use Rattle.smithy_document.proofs.json_fields.JsonFields.end.Goals as goal

pub returns-in-Some : goal.returns-in-Some
returns-in-Some c = c.saturating_sub.ensures ∙ end_before_next _ _ _ _ (rw c.deref.ensures.value at c.in-Some.ensures.lookup.3.0) (rw c.deref.ensures.value at c.in-Some.ensures.lookup.1)

pub returns-in-None : goal.returns-in-None
returns-in-None c = end_of_all _ _ _ (rw c.deref.ensures.value at c.in-None.ensures.lookup.3)
