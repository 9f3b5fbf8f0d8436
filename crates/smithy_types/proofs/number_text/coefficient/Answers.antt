use Rattle.std.proofs.Common.{◌≡◌, ◌==◌, sym, ap, ◌∙◌, arith}
use Rattle.std.specs.List.{before_first, after_first}
use Rattle.std.specs.Str.Parse.{digits_value, digits_value_after}
use Rattle.smithy_types.specs.BigNumbers.{coefficient_in}
use Rattle.smithy_types.proofs.Coefficients.{coefficient_in-parts, value_grows}
use Rattle.smithy_types.proofs.number_text.coefficient.Goals as goal

pub returns-in_err-whole : goal.returns-in_err-whole
returns-in_err-whole c =
    let text = c.args.mantissa.now in
    let parts = coefficient_in-parts text in
    let whole = ap (digits_value 10) c.before-2.ensures in
    let grows = value_grows (digits_value 10 (before_first (λ b. b == 46) text)) (after_first (λ b. b == 46) text) in
    rw c.from_residual.ensures (λ fits. c.in_err-whole.ensures (omega arith))

pub returns : goal.returns
returns c =
    let text = c.args.mantissa.now in
    let same : digits_value_after 10 c.in_ok-whole.whole c.after.result.now ≡ coefficient_in text =
    ap (λ n. digits_value_after 10 n c.after.result.now) (c.in_ok-whole.ensures.1 ∙ ap (digits_value 10) c.before-2.ensures)
    ∙ ap (digits_value_after 10 (digits_value 10 (before_first (λ b. b == 46) text))) c.after.ensures
    ∙ sym (coefficient_in-parts text) in
    rw same at c.read_on-2.ensures
