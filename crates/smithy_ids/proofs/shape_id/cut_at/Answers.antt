use Rattle.smithy_ids.proofs.NameLemmas.{cuts_at}
use Rattle.smithy_ids.proofs.shape_id.cut_at.Goals as goal

pub returns : goal.returns
returns c = cuts_at c.args.at c.args.text.now c.split_once.result c.split_once.ensures.cases c.requires
