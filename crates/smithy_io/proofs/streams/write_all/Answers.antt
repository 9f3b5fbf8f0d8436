use Rattle.std.proofs.Common.{arith, ◌∙◌}
use Rattle.std.proofs.Math.Seq.{take-add}
use Rattle.std.proofs.lemmas.List.{take_rest}
use Rattle.smithy_io.proofs.StreamSteps.{gained_more}
use Rattle.smithy_io.proofs.streams.write_all.Goals as goal

pub loop-done-preserved : goal.loop-done-preserved
loop-done-preserved g c = record {
  within = omega (arith, c.in_ok-n.ensures.within);
  gained = rw take-add (gained_more _ _ _ _ _ c.loop-done.invariant.gained (rw (take_rest c.args.bytes.now c.loop-done.done) at c.in_ok-n.ensures.gained));
  count = omega arith;
  room = c.in_ok-n.ensures.room ∙ c.loop-done.invariant.room;
}
