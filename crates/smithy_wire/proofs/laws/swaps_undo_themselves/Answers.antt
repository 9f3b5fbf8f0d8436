use Rattle.smithy_wire.proofs.LawfulTexts.{undoes_itself}
use Rattle.smithy_wire.proofs.laws.swaps_undo_themselves.Goals as goal

pub returns : goal.returns
returns c = undoes_itself
