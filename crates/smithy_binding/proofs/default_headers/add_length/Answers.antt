use Rattle.smithy_binding.proofs.Common.{◌∙◌, ap, is_header_value}
use Rattle.smithy_binding.proofs.DecimalValues.{legal_decimal}
use Rattle.smithy_binding.proofs.default_headers.add_length.Goals as goal

pub append_default-requires-clause-value : goal.append_default-requires-clause-value
append_default-requires-clause-value c = ap is_header_value (c.as_str.ensures.value ∙ c.in_ok-text.ensures.ok) ∙ legal_decimal c.args.len c.ranges.len.fits
