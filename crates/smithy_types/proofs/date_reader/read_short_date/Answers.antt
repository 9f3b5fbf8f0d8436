use Rattle.std.proofs.Common.{codes, refl, sym, arith}
use Rattle.std.proofs.lemmas.Bool.{and_parts}
use Rattle.smithy_types.specs.TimestampReading.{has_short_date_form}
use Rattle.smithy_types.proofs.Readings.{digit_behind, digit_inside}
use Rattle.smithy_types.proofs.date_reader.read_short_date.Goals as goal

pub four_digits-requires-clause-first : goal.four_digits-requires-clause-first
unfolding has_short_date_form
four_digits-requires-clause-first c =
    digit_behind (codes " 0000 ") c.args.text.now 11 1 (and_parts _ _ (and_parts _ _ (sym c.if-not-has_short_date_form.ensures)).1).1 (omega arith) refl

pub four_digits-requires-clause-second : goal.four_digits-requires-clause-second
unfolding has_short_date_form
four_digits-requires-clause-second c =
    digit_behind (codes " 0000 ") c.args.text.now 11 2 (and_parts _ _ (and_parts _ _ (sym c.if-not-has_short_date_form.ensures)).1).1 (omega arith) refl

pub four_digits-requires-clause-third : goal.four_digits-requires-clause-third
unfolding has_short_date_form
four_digits-requires-clause-third c =
    digit_behind (codes " 0000 ") c.args.text.now 11 3 (and_parts _ _ (and_parts _ _ (sym c.if-not-has_short_date_form.ensures)).1).1 (omega arith) refl

pub four_digits-requires-clause-fourth : goal.four_digits-requires-clause-fourth
unfolding has_short_date_form
four_digits-requires-clause-fourth c =
    digit_behind (codes " 0000 ") c.args.text.now 11 4 (and_parts _ _ (and_parts _ _ (sym c.if-not-has_short_date_form.ensures)).1).1 (omega arith) refl

pub two_digits-requires-clause-first : goal.two_digits-requires-clause-first
unfolding has_short_date_form
two_digits-requires-clause-first c =
    digit_inside (codes ", 00 ") c.args.text.now 3 5 2 (and_parts _ _ (and_parts _ _ (sym c.if-not-has_short_date_form.ensures)).1).0 (omega arith) (omega arith) refl

pub two_digits-requires-clause-second : goal.two_digits-requires-clause-second
unfolding has_short_date_form
two_digits-requires-clause-second c =
    digit_inside (codes ", 00 ") c.args.text.now 3 5 3 (and_parts _ _ (and_parts _ _ (sym c.if-not-has_short_date_form.ensures)).1).0 (omega arith) (omega arith) refl
