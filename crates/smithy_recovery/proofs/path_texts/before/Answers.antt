use Rattle.smithy_recovery.proofs.Cutting.{strips_end}
use Rattle.smithy_recovery.proofs.path_texts.before.Goals as goal

pub returns : goal.returns
returns c = strips_end c.args.end.now c.args.text.now c.strip_suffix.result c.strip_suffix.ensures.cases
