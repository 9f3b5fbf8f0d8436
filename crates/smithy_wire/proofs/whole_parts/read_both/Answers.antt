use Rattle.smithy_wire.proofs.WholeLemmas.{both_read}
use Rattle.smithy_wire.proofs.whole_parts.read_both.Goals as goal

pub returns : goal.returns
returns c = both_read c.args.front.now c.args.back.now c.read_on.result c.read_on-2.result c.read_on.ensures c.read_on-2.ensures
