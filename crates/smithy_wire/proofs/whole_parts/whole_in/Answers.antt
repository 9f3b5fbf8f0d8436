use Rattle.smithy_wire.proofs.Common.{sym, ◌∙◌}
use Rattle.smithy_wire.proofs.WholeLemmas.{no_decimal, whole_decimal_is}
use Rattle.smithy_wire.proofs.whole_parts.whole_in.Goals as goal

pub returns-then-not-is_whole : goal.returns-then-not-is_whole
returns-then-not-is_whole c = no_decimal c.args.numeral.now c.args.is_negative (sym c.is_whole.ensures ∙ c.if-not-is_whole.true)

pub returns : goal.returns
returns c = whole_decimal_is c.args.numeral.now c.args.is_negative c.whole_size.result _ (sym c.is_whole.ensures ∙ c.if-not-is_whole.false) c.whole_size.ensures c.signed.ensures
