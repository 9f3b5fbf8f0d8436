use Rattle.smithy_document.proofs.Common.{◌∙◌, ap, inl, append_assoc, InvalidInput}
use Rattle.smithy_document.proofs.big_number_reads.not_parsed.Goals as goal

pub returns-in-Ok : goal.returns-in-Ok
returns-in-Ok c = inl (ap InvalidInput (c.from_string.ensures ∙ c.in-Ok.ensures.ok ∙ simp append_assoc))
