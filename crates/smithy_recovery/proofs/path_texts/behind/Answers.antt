use Rattle.smithy_recovery.proofs.Cutting.{strips_front}
use Rattle.smithy_recovery.proofs.path_texts.behind.Goals as goal

pub returns : goal.returns
returns c = strips_front c.args.front.now c.args.text.now c.strip_prefix.result c.strip_prefix.ensures.cases
