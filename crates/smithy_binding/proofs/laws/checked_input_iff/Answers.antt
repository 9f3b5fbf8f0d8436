use Rattle.smithy_binding.proofs.CheckedLaws.{checked_input_iff}
use Rattle.smithy_binding.proofs.laws.checked_input_iff.Goals as goal

pub returns : goal.returns
returns c = checked_input_iff
