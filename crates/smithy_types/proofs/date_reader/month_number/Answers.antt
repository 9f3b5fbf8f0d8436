use Rattle.std.proofs.Common.{◌≡◌, ◌+◌, ◌-◌, drop, false, sym, ap, ◌∙◌, arith}
use Rattle.std.specs.List.{position_or_len}
use Rattle.smithy_types.specs.Texts.{same_text}
use Rattle.smithy_types.specs.Timestamps.{month_names, month_name}
use Rattle.smithy_types.proofs.Readings.{place_more}
use Rattle.smithy_types.proofs.date_reader.month_number.Goals as goal

pub loop-month-preserved : goal.loop-month-preserved
loop-month-preserved c =
    let l = c.loop-month in
    let p = same_text c.args.name.now in
    let miss : p (month_name l.month) ≡ false = ap p (sym (c.as_slice.ensures ∙ c.month_name.ensures)) ∙ sym c.if-eq.ensures in
    let more = place_more p month_names (l.month - 1) (omega arith) miss in
    let next : l.month - 1 + 1 ≡ l.month + 1 - 1 = omega arith in
    let after = ap (λ k. position_or_len p (drop k month_names)) next in
    l.invariant ∙ omega arith
