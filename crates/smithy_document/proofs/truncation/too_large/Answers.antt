use Rattle.smithy_document.proofs.Common.{◌∙◌, ap, inl, append_assoc, Custom}
use Rattle.smithy_document.proofs.truncation.too_large.Goals as goal

pub returns-in-Ok : goal.returns-in-Ok
returns-in-Ok c = inl (ap Custom (c.from_string.ensures ∙ c.in-Ok.ensures.ok ∙ simp append_assoc))
