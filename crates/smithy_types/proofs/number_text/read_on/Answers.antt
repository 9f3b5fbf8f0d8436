use Rattle.std.proofs.Common.{◌≡◌, ◌+◌, ◌*◌, drop, get_or, sym, ap, ◌∙◌, arith}
use Rattle.std.specs.Char.{digit_value}
use Rattle.std.specs.Str.Parse.{digits_value_after}
use Rattle.std.proofs.lemmas.List.{at_drop_all}
use Rattle.smithy_types.proofs.Coefficients.{value_grows, value_more, digit_at}
use Rattle.smithy_types.proofs.number_text.read_on.Goals as goal

pub returns-in_err-checked_mul : goal.returns-in_err-checked_mul
returns-in_err-checked_mul c =
    let l = c.loop-b in
    let ds = c.args.digits.now in
    let more = value_more l.value ds l.b-index c.loop-b-test.true in
    let grows = value_grows (l.value * 10 + digit_value (get_or ds l.b-index 0)) (drop (l.b-index + 1) ds) in
    rw c.from_residual.ensures (λ fits. c.in_err-checked_mul.ensures (omega (arith, l.invariant)))

pub returns-in_err-value : goal.returns-in_err-value
returns-in_err-value c =
    let l = c.loop-b in
    let ds = c.args.digits.now in
    let more = value_more l.value ds l.b-index c.loop-b-test.true in
    let grows = value_grows (l.value * 10 + digit_value (get_or ds l.b-index 0)) (drop (l.b-index + 1) ds) in
    let digit = digit_at ds l.b-index c.requires c.loop-b-test.true in
    rw c.from_residual-in_err-value.ensures (λ fits. c.in_err-value.ensures (omega (arith, l.invariant, c.from.ensures, c.in_ok-checked_mul.ensures)))

pub returns : goal.returns
returns c =
    let l = c.loop-b in
    let done = at_drop_all (digits_value_after 10 l.value) c.args.digits.now l.b-index c.loop-b-test.false in
    let same : l.value ≡ digits_value_after 10 c.args.start c.args.digits.now = sym done ∙ l.invariant.1 in
    (omega arith, same)

pub loop-b-preserved : goal.loop-b-preserved
loop-b-preserved c =
    let l = c.loop-b in
    let ds = c.args.digits.now in
    let digit = digit_at ds l.b-index c.requires c.loop-b-test.true in
    let same : c.in_ok-value.value ≡ l.value * 10 + digit_value (get_or ds l.b-index 0) = omega (arith, c.in_ok-value.ensures, c.from.ensures, c.in_ok-checked_mul.ensures) in (
      omega (arith, c.in_ok-value.ensures),
      ap (λ n. digits_value_after 10 n (drop (l.b-index + 1) ds)) same ∙ sym (value_more l.value ds l.b-index c.loop-b-test.true) ∙ l.invariant.1,
    )
