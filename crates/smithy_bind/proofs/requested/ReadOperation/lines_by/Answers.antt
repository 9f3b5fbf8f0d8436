use Rattle.smithy_bind.specs.Outcome.{json_bodies}
use Rattle.smithy_bind.proofs.RequestedLemmas.{lines_done, lines_next}
use Rattle.smithy_bind.proofs.requested.ReadOperation.lines_by.Goals as goal

pub loop-done-preserved : goal.loop-done-preserved
loop-done-preserved g c = record {
  within = c.next_part-part.ensures.within;
  beside = c.with_inputs.ensures.beside;
  lines = λ is o.
      lines_next (json_bodies (g.C.Codec.text c.args.protocol.now.codec)) is c.args.inputs.now c.next_part-part.result.now c.loop-done.done _ c.loop-done.lines.items c.in_ok-more.more.items
      c.next_part-part.ensures.cut (c.in_ok-more.ensures.lines is o) (c.loop-done.invariant.lines is o);
}

pub returns : goal.returns
returns g c = λ is o.
    lines_done (json_bodies (g.C.Codec.text c.args.protocol.now.codec)) is c.args.inputs.now c.loop-done.done _ c.loop-done.lines.items c.loop-done-test.false (c.loop-done.invariant.lines is o)
