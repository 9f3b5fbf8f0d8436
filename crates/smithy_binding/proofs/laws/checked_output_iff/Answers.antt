use Rattle.smithy_binding.proofs.CheckedOutputLaws.{checked_output_iff}
use Rattle.smithy_binding.proofs.laws.checked_output_iff.Goals as goal

pub returns : goal.returns
returns c = checked_output_iff
