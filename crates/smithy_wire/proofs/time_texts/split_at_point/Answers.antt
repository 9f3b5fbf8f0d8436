use Rattle.smithy_wire.proofs.ZoneLemmas.{cuts_at_point}
use Rattle.smithy_wire.proofs.time_texts.split_at_point.Goals as goal

pub returns : goal.returns
returns c = cuts_at_point c.args.text.now c.split_once.result c.split_once.ensures.cases
