use Rattle.std.proofs.Common.{codes, refl, sym, arith}
use Rattle.smithy_types.proofs.Readings.{digit_of_picture, length_of_picture}
use Rattle.smithy_types.proofs.date_reader.read_full_date.Goals as goal

pub four_digits-requires-clause-room : goal.four_digits-requires-clause-room
four_digits-requires-clause-room c =
    let same = length_of_picture (codes "0000-00-00T") c.args.text.now (sym c.if-not-has_picture.ensures) in omega arith

pub two_digits-requires-clause-room : goal.two_digits-requires-clause-room
two_digits-requires-clause-room c =
    let same = length_of_picture (codes "0000-00-00T") c.args.text.now (sym c.if-not-has_picture.ensures) in omega arith

pub two_digits-requires-2-clause-room : goal.two_digits-requires-2-clause-room
two_digits-requires-2-clause-room c =
    let same = length_of_picture (codes "0000-00-00T") c.args.text.now (sym c.if-not-has_picture.ensures) in omega arith

pub four_digits-requires-clause-first : goal.four_digits-requires-clause-first
four_digits-requires-clause-first c =
    digit_of_picture (codes "0000-00-00T") c.args.text.now 0 (sym c.if-not-has_picture.ensures) (omega arith) refl

pub four_digits-requires-clause-second : goal.four_digits-requires-clause-second
four_digits-requires-clause-second c =
    digit_of_picture (codes "0000-00-00T") c.args.text.now 1 (sym c.if-not-has_picture.ensures) (omega arith) refl

pub four_digits-requires-clause-third : goal.four_digits-requires-clause-third
four_digits-requires-clause-third c =
    digit_of_picture (codes "0000-00-00T") c.args.text.now 2 (sym c.if-not-has_picture.ensures) (omega arith) refl

pub four_digits-requires-clause-fourth : goal.four_digits-requires-clause-fourth
four_digits-requires-clause-fourth c =
    digit_of_picture (codes "0000-00-00T") c.args.text.now 3 (sym c.if-not-has_picture.ensures) (omega arith) refl

pub two_digits-requires-clause-first : goal.two_digits-requires-clause-first
two_digits-requires-clause-first c =
    digit_of_picture (codes "0000-00-00T") c.args.text.now 5 (sym c.if-not-has_picture.ensures) (omega arith) refl

pub two_digits-requires-clause-second : goal.two_digits-requires-clause-second
two_digits-requires-clause-second c =
    digit_of_picture (codes "0000-00-00T") c.args.text.now 6 (sym c.if-not-has_picture.ensures) (omega arith) refl

pub two_digits-requires-2-clause-first : goal.two_digits-requires-2-clause-first
two_digits-requires-2-clause-first c =
    digit_of_picture (codes "0000-00-00T") c.args.text.now 8 (sym c.if-not-has_picture.ensures) (omega arith) refl

pub two_digits-requires-2-clause-second : goal.two_digits-requires-2-clause-second
two_digits-requires-2-clause-second c =
    digit_of_picture (codes "0000-00-00T") c.args.text.now 9 (sym c.if-not-has_picture.ensures) (omega arith) refl
