use Rattle.std.proofs.Common.{rules, FitsSigned, w8, w16, w32, w64}
use Rattle.smithy_recovery.proofs.InRange.{fits_within}
use Rattle.smithy_recovery.proofs.ranges.is_scalar_in_range.Goals as goal

pub returns-in-Byte : goal.returns-in-Byte
returns-in-Byte c = let fits : FitsSigned w8 c.in-Byte._value = search rules in rw c.in-Byte.is (fits_within w8 _ fits)

pub returns-in-Short : goal.returns-in-Short
returns-in-Short c = let fits : FitsSigned w16 c.in-Short._value = search rules in rw c.in-Short.is (fits_within w16 _ fits)

pub returns-in-Integer : goal.returns-in-Integer
returns-in-Integer c = let fits : FitsSigned w32 c.in-Integer._value = search rules in rw c.in-Integer.is (fits_within w32 _ fits)

pub returns-in-Long : goal.returns-in-Long
returns-in-Long c = let fits : FitsSigned w64 c.in-Long._value = search rules in rw c.in-Long.is (fits_within w64 _ fits)
