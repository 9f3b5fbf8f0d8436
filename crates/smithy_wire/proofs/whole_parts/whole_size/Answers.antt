use Rattle.smithy_wire.proofs.WholeLemmas.{size_is}
use Rattle.smithy_wire.proofs.whole_parts.whole_size.Goals as goal

pub returns : goal.returns
returns c =
    size_is c.args.numeral.now c.place_of.result c.point_of.result c.read_before.result c.digit_count.result c.saturating_sub-zeros.result c.widened.result
    c.place_of.ensures c.point_of.ensures c.read_before.ensures c.digit_count.ensures.value c.digit_count.ensures.short c.saturating_sub-zeros.ensures c.widened.ensures
