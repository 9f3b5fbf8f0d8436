use Rattle.smithy_schema.proofs.CutLemmas.{cuts_at_close}
use Rattle.smithy_schema.proofs.first_hole.cut_at_close.Goals as goal

pub returns : goal.returns
returns c = cuts_at_close c.args.text.now c.split_once.result c.split_once.ensures.cases
