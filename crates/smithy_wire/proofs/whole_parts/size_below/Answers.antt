use Rattle.smithy_wire.proofs.Common.{sym, ◌∙◌}
use Rattle.smithy_wire.proofs.WholeLemmas.{below_whole, below_other}
use Rattle.smithy_wire.proofs.whole_parts.size_below.Goals as goal

pub returns-then-is_whole : goal.returns-then-is_whole
returns-then-is_whole c = below_whole c.args.numeral.now c.whole_size-size.result (sym c.is_whole.ensures ∙ c.if-is_whole.true) c.whole_size-size.ensures

pub returns-else-is_whole : goal.returns-else-is_whole
returns-else-is_whole c = below_other c.args.numeral.now c.whole_size-size.result c.saturating_add.result (sym c.is_whole.ensures ∙ c.if-is_whole.false) c.whole_size-size.ensures c.saturating_add.ensures
