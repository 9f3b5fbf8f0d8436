use Rattle.smithy_binding.proofs.Common.{ap, ◌∙◌, ◌%◌, ◌==◌, writes_in}
use Rattle.smithy_binding.proofs.MapEntries.{ends-even}
use Rattle.smithy_binding.proofs.maps.ends_with_value.Goals as goal

pub returns : goal.returns
returns c t = ap (λ n. n % 2 == 0) (c.len.ensures t) ∙ ends-even (writes_in t c.args.entries.now)
