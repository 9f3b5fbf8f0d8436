use Rattle.std.proofs.Common.{sym}
use Rattle.smithy_types.proofs.Coefficients.{signed_digits-mantissa}
use Rattle.smithy_types.proofs.big_number.BigInteger.parse.Goals as goal

pub has_narrow_coefficient-requires : goal.has_narrow_coefficient-requires
has_narrow_coefficient-requires c = signed_digits-mantissa c.as_bytes-bytes.result.now (sym c.if-not-is_signed_digits.ensures)
