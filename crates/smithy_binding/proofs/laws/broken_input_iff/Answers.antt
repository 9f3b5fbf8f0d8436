use Rattle.smithy_binding.proofs.BrokenLaws.{broken_input_iff}
use Rattle.smithy_binding.proofs.laws.broken_input_iff.Goals as goal

pub returns : goal.returns
returns c = broken_input_iff
