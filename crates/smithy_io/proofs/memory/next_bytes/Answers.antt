use Rattle.std.proofs.Common.{◌≡◌, ◌+◌, ◌-◌, length, arith, rules}
use Rattle.std.proofs.lemmas.List.{length-drop}
use Rattle.smithy_io.proofs.StreamSteps.{gave_front, ends_at_length}
use Rattle.smithy_io.proofs.memory.next_bytes.Goals as goal

pub returns-clause-given : goal.returns-clause-given
returns-clause-given c =
    let same : c.args.done + c.min-n.result - c.args.done ≡ c.min-n.result = omega arith in
    gave_front _ _ _ _ _ (rw length-drop (omega arith)) (rw same at c.copy_front.ensures)

pub returns-clause-end : goal.returns-clause-end
returns-clause-end c = ends_at_length c.args.bytes.now c.args.done _ (length c.args.buf.now) (search rules)
