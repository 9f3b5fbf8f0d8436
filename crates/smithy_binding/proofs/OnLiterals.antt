use Rattle.std.specs.Prelude.{⊤}
use Rattle.smithy_binding.proofs.Common.{headers, pairs, labels, body, document_value, target_of, answer, writes_fault, body_fault, legal_target, is_clear, checked_input, checked_output, broken_input, broken_output}
use Rattle.smithy_strings.proofs.OnLiterals.{strings_on_literals}
use Rattle.smithy_binding.specs.NormalForm.{view}

-- what a proof unfolds to compute this crate's definitions on a literal
unfoldable pub binding_on_literals : ⊤
unfolding strings_on_literals headers pairs labels body document_value target_of writes_fault body_fault legal_target answer is_clear checked_input checked_output broken_input broken_output view
binding_on_literals = tt
