use Rattle.std.proofs.Common.{ap, ◌∙◌}
use Rattle.smithy_types.specs.Grammars.{is_header_value}
use Rattle.smithy_binding.proofs.DecimalValues.{legal_decimal}
use Rattle.smithy_aws.proofs.added_headers.append_length.Goals as goal

pub append_default-requires-clause-value : goal.append_default-requires-clause-value
append_default-requires-clause-value c = ap is_header_value (c.as_str.ensures.value ∙ c.in_ok-text.ensures.ok) ∙ legal_decimal c.args.length c.ranges.length.fits
