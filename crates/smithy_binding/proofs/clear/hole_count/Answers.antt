use Rattle.smithy_binding.proofs.Common.{ap, sym, ◌∙◌, length}
use Rattle.smithy_binding.proofs.ClearLemmas.{holes-count}
use Rattle.smithy_binding.proofs.clear.hole_count.Goals as goal

pub returns : goal.returns
returns c = ap length c.as_slice.ensures.value ∙ sym (holes-count c.args.template.now)
