use Rattle.std.proofs.Common.{◌≡◌, false, sym, ap, ◌∙◌, arith, slice_get, unwrap_or, [], ◌%◌}
use Rattle.smithy_types.specs.Texts.{same_text}
use Rattle.smithy_types.specs.Timestamps.{weekday_names}
use Rattle.smithy_types.proofs.Readings.{any_more}
use Rattle.smithy_types.proofs.date_reader.is_weekday.Goals as goal

pub loop-day-preserved : goal.loop-day-preserved
loop-day-preserved c =
    let l = c.loop-day in
    let p = same_text c.args.name.now in
    let same : l.day % 7 ≡ l.day = omega arith in
    let miss : p (unwrap_or (slice_get weekday_names l.day) []) ≡ false =
    ap (λ d. p (unwrap_or (slice_get weekday_names d) [])) (sym same) ∙ ap p (sym (c.as_slice.ensures ∙ c.weekday_name.ensures)) ∙ sym c.if-eq.ensures in
    sym (any_more p weekday_names l.day (omega arith) miss) ∙ l.invariant
