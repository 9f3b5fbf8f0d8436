use Rattle.smithy_binding.proofs.Common.{◌≡◌, List, ◌++◌, Ok, kept_writes, listed, AreListedDefined, Tells, OneWrite}
use Rattle.smithy_binding.proofs.http_rpc_protocol.tell_stored.Given as goal

-- the writes so far were told, and those that are left have nodes
abbrev pub invariant-loop-node : goal.invariant-loop-node
invariant-loop-node g l =
    let m = g.S.ShapeSerializer in
    (done : List OneWrite)
    × (kept_writes l.writes ≡ done ++ l.node-iterator)
    × Tells (listed l.table done) (m.seen l.initial.serializer) (m.seen l.serializer) (Ok (tt {0}))
    × AreListedDefined l.table l.node-iterator
