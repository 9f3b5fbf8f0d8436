use Rattle.smithy_binding.proofs.Common.{Ok, take, Tells, told}
use Rattle.smithy_binding.proofs.body.tell_writes.Given as goal

-- the writes so far were told
abbrev pub invariant-loop-write : goal.invariant-loop-write
invariant-loop-write g l =
    let m = g.S.ShapeSerializer in
    Tells (told l.table (take l.write-index l.writes)) (m.seen l.initial.serializer) (m.seen l.serializer) (Ok (tt {0}))
