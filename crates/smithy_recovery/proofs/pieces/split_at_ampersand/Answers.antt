use Rattle.smithy_recovery.proofs.Cuts.{cuts_at_ampersand}
use Rattle.smithy_recovery.proofs.pieces.split_at_ampersand.Goals as goal

pub returns : goal.returns
returns c = cuts_at_ampersand c.args.text.now c.split_once.result c.split_once.ensures.cases
