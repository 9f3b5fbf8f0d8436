use Rattle.std.proofs.Common.{rules, FitsSigned, w64}
use Rattle.smithy_recovery.proofs.InRange.{fits_within}
use Rattle.smithy_recovery.proofs.ranges.is_time.Goals as goal

pub returns : goal.returns
returns c = let fits : FitsSigned w64 c.secs-seconds.result = search rules in rw c.secs-seconds.ensures at (fits_within w64 c.secs-seconds.result fits)
