use Rattle.smithy_response.proofs.Common.{err_from_is_err_and}
use Rattle.smithy_response.proofs.Copies.{stops}
use Rattle.smithy_response.proofs.counted.Counted.next_unbound.Goals as goal

pub returns-in_err-member-clause-next : goal.returns-in_err-member-clause-next
returns-in_err-member-clause-next g c =
    let p = err_from_is_err_and c.from_residual.result c.from_residual.ensures.1 in
    rw (p.1, p.2) (stops c.loop-member.invariant c.in_err-member.ensures)
