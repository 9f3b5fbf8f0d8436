use Rattle.std.proofs.Common.{sym, ap, ◌∙◌, rules}
use Rattle.smithy_types.specs.Texts.{padded_decimal}
use Rattle.smithy_types.proofs.DatePieces.{two_items, four_items, date_time-joined}
use Rattle.smithy_types.proofs.date_text.date_time_bytes.Goals as goal

pub returns : goal.returns
returns c =
    date_time-joined
    (ap (padded_decimal 4) (sym c.date_on-date.ensures.year) ∙ sym c.in_four_digits.ensures ∙ four_items c.in_four_digits.result (search rules))
    (ap (padded_decimal 2) (sym c.date_on-date.ensures.month) ∙ sym c.in_two_digits.ensures ∙ two_items c.in_two_digits.result (search rules))
    (ap (padded_decimal 2) (sym c.date_on-date.ensures.day) ∙ sym c.in_two_digits-2.ensures ∙ two_items c.in_two_digits-2.result (search rules))
    (sym c.in_two_digits-3.ensures ∙ two_items c.in_two_digits-3.result (search rules))
    (sym c.in_two_digits-4.ensures ∙ two_items c.in_two_digits-4.result (search rules))
    (sym c.in_two_digits-5.ensures ∙ two_items c.in_two_digits-5.result (search rules))
