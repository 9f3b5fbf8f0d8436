use Rattle.std.specs.Prelude.{⊤}
use Rattle.smithy_binding.proofs.OnLiterals.{binding_on_literals}
use Rattle.smithy_document.proofs.OnLiterals.{document_on_literals}

-- what a proof unfolds to compute the definitions on a literal
unfoldable pub second_codec_on_literals : ⊤
unfolding binding_on_literals document_on_literals
second_codec_on_literals = tt
