use Rattle.std.proofs.Common.{◌≡◌, ◌+◌, take, drop, sym, ap, arith}
use Rattle.std.specs.Str.Parse.{digits_value}
use Rattle.std.proofs.lemmas.List.{drop-drop, length-drop}
use Rattle.smithy_types.specs.TimestampReading.{number_at}
use Rattle.smithy_types.proofs.Readings.{four_digits_value}
use Rattle.smithy_types.proofs.date_reader.four_digits.Goals as goal

pub returns-clause-value : goal.returns-clause-value
returns-clause-value c =
    let text = c.args.text.now in
    let i = c.args.place in
    let behind : number_at (i + 2) 2 text ≡ digits_value 10 (take 2 (drop 2 (drop i text))) = ap (λ t. digits_value 10 (take 2 t)) (sym (drop-drop 2 i text)) in
    let all = four_digits_value (drop i text) (omega (arith, length-drop i text)) in
    omega (arith, c.from.ensures, c.from-2.ensures, c.two_digits.ensures.value, c.two_digits-2.ensures.value)
