use Rattle.smithy_wire.proofs.Common.{sym, ◌∙◌, ap, ◌-◌, ◌^◌}
use Rattle.std.proofs.Common.{min}
use Rattle.std.specs.Str.Parse.{digits_value}
use Rattle.smithy_wire.proofs.WholeLemmas.{all_digits, point_back, point_on}
use Rattle.smithy_wire.proofs.whole_parts.point_of.Goals as goal

pub read_on-moved-requires : goal.read_on-moved-requires
read_on-moved-requires c = all_digits c.exponent.result.now c.exponent.ensures.digits

pub returns-then-is_exponent_negative : goal.returns-then-is_exponent_negative
returns-then-is_exponent_negative c =
    point_back c.args.numeral.now c.whole_count-count.result c.read_on-moved.result c.saturating_sub.result c.whole_count-count.ensures.value c.whole_count-count.ensures.short
    (c.read_on-moved.ensures ∙ ap (λ ds. min (digits_value 10 ds) (2 ^ 128 - 1)) c.exponent.ensures.value) (sym c.is_exponent_negative.ensures ∙ c.if-is_exponent_negative.true) c.saturating_sub.ensures

pub returns-else-is_exponent_negative : goal.returns-else-is_exponent_negative
returns-else-is_exponent_negative c =
    point_on c.args.numeral.now c.whole_count-count.result c.read_on-moved.result c.saturating_add.result c.whole_count-count.ensures.value
    (c.read_on-moved.ensures ∙ ap (λ ds. min (digits_value 10 ds) (2 ^ 128 - 1)) c.exponent.ensures.value) (sym c.is_exponent_negative.ensures ∙ c.if-is_exponent_negative.false) c.saturating_add.ensures
