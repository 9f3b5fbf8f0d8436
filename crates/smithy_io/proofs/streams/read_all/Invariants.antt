use Rattle.std.proofs.Common.{◌≡◌, ◌≤◌, ◌-◌, vec_len}
use Rattle.smithy_io.specs.Streams.{Gave}
use Rattle.smithy_io.proofs.streams.read_all.Given as goal

abbrev pub invariant-loop-piece : goal.invariant-loop-piece
invariant-loop-piece g l = record {
  gave : Gave (g.S.Source.left l.fn.source) l.bytes.items (g.S.Source.left l.source);
  short : vec_len l.bytes ≤ 16777217;
  calm : g.S.Source.faults l.source ≡ g.S.Source.faults l.fn.source;
}

abbrev pub decreases-loop-piece : goal.decreases-loop-piece
decreases-loop-piece g l = 16777217 - vec_len l.bytes
