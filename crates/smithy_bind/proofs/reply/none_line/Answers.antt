use Rattle.smithy_bind.proofs.ReplyLemmas.{none_lined}
use Rattle.smithy_bind.proofs.reply.none_line.Goals as goal

pub returns : goal.returns
returns c = none_lined c.new-lines.result.items c.with_line.result c.new-lines.ensures.items c.with_line.ensures
