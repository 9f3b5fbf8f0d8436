use Rattle.std.proofs.Common.{ap, ◌∙◌}
use Rattle.fast_float.specs.Text.{scan}
use Rattle.serde_json.specs.Read.{number_of, number_from}
use Rattle.smithy_json.proofs.NumberLemmas.{integer_first, float_else, by_sign}
use Rattle.smithy_json.proofs.numbers.number_of.Goals as goal

pub returns-in-Some : goal.returns-in-Some
returns-in-Some c =
    let sign = c.has_minus-is_negative.result in
    integer_first sign c.scan-numeral.result _ c.in-Some.ensures
    ∙ ap (number_from sign) (c.scan-numeral.ensures.parts ∙ ap scan c.behind_minus-digits.ensures) ∙ by_sign _ sign c.has_minus-is_negative.ensures ∙ ap number_of c.as_bytes-text.ensures.value

pub returns-in-None : goal.returns-in-None
returns-in-None c =
    let sign = c.has_minus-is_negative.result in
    c.nearest_float.ensures ∙ float_else sign c.scan-numeral.result c.in-None.ensures
    ∙ ap (number_from sign) (c.scan-numeral.ensures.parts ∙ ap scan c.behind_minus-digits.ensures) ∙ by_sign _ sign c.has_minus-is_negative.ensures ∙ ap number_of c.as_bytes-text.ensures.value
