use Rattle.smithy_recovery.proofs.Cutting.{part_some, part_none}
use Rattle.smithy_recovery.proofs.path_texts.cut_part.Goals as goal

pub returns-in_err-rest : goal.returns-in_err-rest
returns-in_err-rest c = rw c.from_residual-in_err-rest.ensures (part_none c.args.is_greedy c.args.literal.now c.args.path.now c.in_ok-part.part.now c.in_ok-part.ensures c.in_err-rest.ensures)

pub returns : goal.returns
returns c = part_some c.args.is_greedy c.args.literal.now c.args.path.now c.in_ok-part.part.now c.in_ok-rest.rest.now c.in_ok-part.ensures c.in_ok-rest.ensures
