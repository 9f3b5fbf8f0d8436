use Rattle.smithy_binding.proofs.BrokenLaws.{broken_output_iff}
use Rattle.smithy_binding.proofs.laws.broken_output_iff.Goals as goal

pub returns : goal.returns
returns c = broken_output_iff
