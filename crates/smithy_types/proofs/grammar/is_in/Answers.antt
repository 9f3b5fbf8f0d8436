use Rattle.std.proofs.Common.{arith}
use Rattle.smithy_types.proofs.ByteTable.{flag_tells}
use Rattle.smithy_types.proofs.grammar.is_in.Goals as goal

pub returns : goal.returns
returns c = rw c.from.ensures (rw c.flag.ensures (flag_tells c.args.class c.args.b (omega arith)))
