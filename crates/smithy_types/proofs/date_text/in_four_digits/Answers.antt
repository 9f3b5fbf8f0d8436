use Rattle.std.proofs.Common.{◌≡◌, ◌/◌, ◌%◌, sym, arith}
use Rattle.smithy_types.proofs.DigitLaws.{padded_four}
use Rattle.smithy_types.proofs.date_text.in_four_digits.Goals as goal

pub returns : goal.returns
returns c =
    let n = c.args.number in
    let first : n / 1000 ≡ n / 10 / 10 / 10 = omega arith in
    let second : n / 100 % 10 ≡ n / 10 / 10 % 10 = omega arith in
    rw (first, second) (sym (padded_four n c.requires))
