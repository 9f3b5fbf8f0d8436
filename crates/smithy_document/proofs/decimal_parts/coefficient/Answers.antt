use Rattle.smithy_document.proofs.Common.{◌≡◌, ◌==◌, ◌-◌, ◌^◌, ◌≤◌, min, ◌∙◌, ap, subst, sym, before_first, after_first, digits_value, digits_value_after, mantissa_of}
use Rattle.smithy_document.proofs.Truncations.{has_parts, coefficient_read}
use Rattle.smithy_document.proofs.decimal_parts.coefficient.Goals as goal

pub returns-clause-value : goal.returns-clause-value
returns-clause-value c =
    let text = c.args.number.now in
    let same : c.as_bytes.result.now ≡ text = c.as_bytes.ensures.value ∙ c.as_str.ensures.text in
    let mantissa : c.mantissa_and_exponent.result.0.now ≡ mantissa_of text = c.mantissa_and_exponent.ensures.mantissa ∙ ap mantissa_of same in
    let whole : c.before_point.result.now ≡ before_first (λ b. b == 46) (mantissa_of text) = c.before_point.ensures ∙ ap (before_first (λ b. b == 46)) mantissa in
    let part : c.behind_point.result.now ≡ after_first (λ b. b == 46) (mantissa_of text) = c.behind_point.ensures ∙ ap (after_first (λ b. b == 46)) mantissa in
    coefficient_read text c.read_on.result c.read_on-2.result (has_parts text c.as_str.ensures.in_range)
    (c.read_on.ensures ∙ ap (λ t. min (digits_value 10 t) (2 ^ 128 - 1)) whole)
    (c.read_on-2.ensures ∙ ap (λ t. min (digits_value_after 10 c.read_on.result t) (2 ^ 128 - 1)) part)

pub returns-clause-narrow : goal.returns-clause-narrow
returns-clause-narrow c =
    let h = has_parts c.args.number.now c.as_str.ensures.in_range in
    subst (λ n. n ≤ 2 ^ 127) (sym (returns-clause-value c)) h.narrow
