use Rattle.smithy_wire.proofs.Common.{◌-◌, ◌∙◌, ap, drop}
use Rattle.std.specs.List.{list_all}
use Rattle.smithy_types.specs.BigNumbers.{is_digit}
use Rattle.smithy_wire.proofs.WholeLemmas.{back_digits, parts_read, drop_both}
use Rattle.smithy_wire.proofs.whole_parts.read_behind.Goals as goal

pub read_both-requires-clause-front : goal.read_both-requires-clause-front
read_both-requires-clause-front c = ap (list_all is_digit) c.cut.ensures.back ∙ back_digits c.args.place c.whole.result.now c.whole.ensures.digits

pub read_both-requires-clause-back : goal.read_both-requires-clause-back
read_both-requires-clause-back c = ap (list_all is_digit) c.cut-2.ensures.back ∙ back_digits c.saturating_sub-further.result c.fraction.result.now c.fraction.ensures.digits

pub returns : goal.returns
returns c =
    let p = c.args.numeral.now in
    parts_read p.whole p.fraction c.cut.result.1.now c.cut-2.result.1.now c.args.place c.saturating_sub-further.result c.read_both.result drop drop_both
    (c.saturating_sub-further.ensures ∙ ap (λ n. c.args.place - n) c.whole_count.ensures.value) (c.cut.ensures.back ∙ ap (drop c.args.place) c.whole.ensures.value)
    (c.cut-2.ensures.back ∙ ap (drop c.saturating_sub-further.result) c.fraction.ensures.value) c.read_both.ensures
