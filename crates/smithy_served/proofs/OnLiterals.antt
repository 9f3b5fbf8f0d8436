use Rattle.std.specs.Prelude.{⊤}
use Rattle.smithy_served.proofs.Common.{message_fault, answer_view}
use Rattle.smithy_binding.proofs.OnLiterals.{binding_on_literals}
use Rattle.smithy_document.proofs.OnLiterals.{document_on_literals}

-- what a proof unfolds to compute this crate's definitions on a literal
unfoldable pub served_on_literals : ⊤
unfolding binding_on_literals document_on_literals message_fault answer_view
served_on_literals = tt
