use Rattle.std.proofs.Common.{sym, ap, ◌∙◌}
use Rattle.smithy_recovery.proofs.Cuts.{query_behind, pieces_behind}
use Rattle.smithy_recovery.proofs.pieces.query_of.Goals as goal

pub returns-in-Some : goal.returns-in-Some
returns-in-Some c = ap pieces_behind (sym c.in-Some.is) ∙ query_behind c.args.target.now c.split_once.result c.split_once.ensures.cases

pub returns-in-None : goal.returns-in-None
returns-in-None c = ap pieces_behind (sym c.in-None.is) ∙ query_behind c.args.target.now c.split_once.result c.split_once.ensures.cases
