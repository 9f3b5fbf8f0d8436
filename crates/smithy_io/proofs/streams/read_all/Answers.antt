use Rattle.std.proofs.Common.{rules, ◌≤◌, ◌+◌, length, take, arith}
use Rattle.std.proofs.lemmas.Result.{err_from_is_err_and}
use Rattle.std.proofs.lemmas.List.{length-take}
use Rattle.smithy_io.specs.Streams.{max_job_len}
use Rattle.smithy_io.proofs.StreamSteps.{part_more}
use Rattle.smithy_io.proofs.streams.read_all.Goals as goal

pub returns-in_err-extend_from_slice-clause-part : goal.returns-in_err-extend_from_slice-clause-part
returns-in_err-extend_from_slice-clause-part g c =
    let p = err_from_is_err_and c.from_residual.result c.from_residual.ensures.1 in
    let short : length c.loop-piece.bytes.items + length (take c.in-Ok.n c.read.new.buf) ≤ 16777217 = rw length-take (search (rules, arith)) in
    rw p.1 (part_more max_job_len _ _ _ _ _ c.loop-piece.invariant.gave c.in-Ok.ensures.given short)
