use Rattle.std.proofs.Common.{sym}
use Rattle.smithy_types.proofs.DigitLaws.{padded_two}
use Rattle.smithy_types.proofs.date_text.in_two_digits.Goals as goal

pub returns : goal.returns
returns c = sym (padded_two c.args.number c.requires)
