use Rattle.smithy_schema.proofs.CutLemmas.{cuts_at_open}
use Rattle.smithy_schema.proofs.first_hole.cut_at_open.Goals as goal

pub returns : goal.returns
returns c = cuts_at_open c.args.text.now c.split_once.result c.split_once.ensures.cases
