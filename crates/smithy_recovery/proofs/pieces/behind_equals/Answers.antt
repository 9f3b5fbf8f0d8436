use Rattle.std.proofs.Common.{sym, ap, ◌∙◌}
use Rattle.smithy_recovery.proofs.Cuts.{equals_behind, text_behind}
use Rattle.smithy_recovery.proofs.pieces.behind_equals.Goals as goal

pub returns-in-Some : goal.returns-in-Some
returns-in-Some c = ap text_behind (sym c.in-Some.is) ∙ equals_behind c.args.piece.now c.split_once.result c.split_once.ensures.cases

pub returns-in-None : goal.returns-in-None
returns-in-None c = ap text_behind (sym c.in-None.is) ∙ equals_behind c.args.piece.now c.split_once.result c.split_once.ensures.cases
