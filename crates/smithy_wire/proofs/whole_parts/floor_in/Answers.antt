use Rattle.smithy_wire.proofs.Common.{◌∙◌}
use Rattle.smithy_wire.specs.ExactNumbers.{size_below}
use Rattle.fast_float.specs.Text.{whole_of}
use Rattle.smithy_wire.proofs.WholeLemmas.{floor_back, floor_on, near_negated, near_positive}
use Rattle.smithy_wire.proofs.whole_parts.floor_in.Goals as goal

pub returns-then-is_negative : goal.returns-then-is_negative
returns-then-is_negative c =
    floor_back c.args.numeral.now c.args.is_negative _ c.if-is_negative.true
    (c.negated.ensures ∙ near_negated (size_below c.args.numeral.now) c.size_below.result c.size_below.ensures)

pub returns-else-is_negative : goal.returns-else-is_negative
returns-else-is_negative c =
    floor_on c.args.numeral.now c.args.is_negative _ c.if-is_negative.false
    (c.not_negative.ensures ∙ near_positive (whole_of c.args.numeral.now) c.whole_size.result c.whole_size.ensures)
