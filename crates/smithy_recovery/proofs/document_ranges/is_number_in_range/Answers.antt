use Rattle.std.proofs.Common.{rules, Fits, FitsSigned, w64}
use Rattle.smithy_recovery.proofs.InRange.{fits_below, fits_within}
use Rattle.smithy_recovery.proofs.document_ranges.is_number_in_range.Goals as goal

pub returns-in-PosInt : goal.returns-in-PosInt
returns-in-PosInt c = let fits : Fits w64 c.in-PosInt._value = search rules in rw c.in-PosInt.is (fits_below _ fits)

pub returns-in-NegInt : goal.returns-in-NegInt
returns-in-NegInt c = let fits : FitsSigned w64 c.in-NegInt._value = search rules in rw c.in-NegInt.is (fits_within w64 _ fits)
