use Rattle.std.proofs.Common.{◌≡◌}
use Rattle.codec_rows.proofs.writes.all_writes.Given as goal

-- so many lists are open
abbrev pub invariant-steps : goal.invariant-steps
invariant-steps g l = (g.S.ShapeSerializer.seen l.to).lists ≡ l.depth
