use Rattle.std.proofs.Common.{ap}
use Rattle.std.specs.Result.{result_ok}
use Rattle.smithy_recovery.proofs.Outcomes.{not_placed}
use Rattle.smithy_gateway.proofs.sending.found.Goals as goal

pub returns-in-Ok : goal.returns-in-Ok
returns-in-Ok c = λ is told. let same = rw c.in-Ok.is at told in ap result_ok same

pub returns-in-Err : goal.returns-in-Err
returns-in-Err c = λ is told. rw c.from.ensures (not_placed c.in-Err.error is (rw c.in-Err.is at told))
