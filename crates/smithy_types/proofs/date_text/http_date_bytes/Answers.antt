use Rattle.std.proofs.Common.{sym, ap, ◌∙◌, rules}
use Rattle.smithy_types.specs.Texts.{padded_decimal}
use Rattle.smithy_types.specs.Timestamps.{month_name}
use Rattle.smithy_types.proofs.DatePieces.{two_items, three_items, four_items, http_date-joined}
use Rattle.smithy_types.proofs.date_text.http_date_bytes.Goals as goal

pub returns : goal.returns
returns c =
    http_date-joined
    (sym c.weekday_name.ensures ∙ three_items c.weekday_name.result.now (search rules))
    (ap (padded_decimal 2) (sym c.date_on-date.ensures.day) ∙ sym c.in_two_digits.ensures ∙ two_items c.in_two_digits.result (search rules))
    (ap month_name (sym c.date_on-date.ensures.month) ∙ sym c.month_name.ensures ∙ three_items c.month_name.result.now (search rules))
    (ap (padded_decimal 4) (sym c.date_on-date.ensures.year) ∙ sym c.in_four_digits.ensures ∙ four_items c.in_four_digits.result (search rules))
    (sym c.in_two_digits-2.ensures ∙ two_items c.in_two_digits-2.result (search rules))
    (sym c.in_two_digits-3.ensures ∙ two_items c.in_two_digits-3.result (search rules))
    (sym c.in_two_digits-4.ensures ∙ two_items c.in_two_digits-4.result (search rules))
