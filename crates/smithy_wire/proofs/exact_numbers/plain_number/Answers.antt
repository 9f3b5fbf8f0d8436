use Rattle.smithy_wire.proofs.Common.{◌∙◌}
use Rattle.smithy_wire.proofs.PlainLemmas.{plain_is}
use Rattle.smithy_wire.proofs.exact_numbers.plain_number.Goals as goal

pub returns : goal.returns
returns c = c.integer_of.ensures ∙ plain_is c.args.text.now c.as_bytes-bytes.result.now c.is_below_zero.result c.parts_of.result c.as_bytes-bytes.ensures.value c.parts_of.ensures c.is_below_zero.ensures
