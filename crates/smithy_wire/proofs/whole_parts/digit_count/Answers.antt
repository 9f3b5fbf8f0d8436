use Rattle.smithy_wire.proofs.Common.{refl}
use Rattle.smithy_wire.proofs.WholeLemmas.{count_is}
use Rattle.smithy_wire.proofs.whole_parts.digit_count.Goals as goal

pub returns-clause-value : goal.returns-clause-value
returns-clause-value c = count_is c.args.numeral.now c.whole_count.result c.fraction_count.result _ c.whole_count.ensures.value c.fraction_count.ensures.value refl
