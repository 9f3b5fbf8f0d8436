use Rattle.smithy_wire.proofs.WholeLemmas.{read_whole}
use Rattle.smithy_wire.proofs.whole_parts.is_whole.Goals as goal

pub returns : goal.returns
returns c = read_whole c.args.numeral.now c.place_of.result c.read_behind.result c.place_of.ensures c.read_behind.ensures
