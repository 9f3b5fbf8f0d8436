use Rattle.smithy_binding.proofs.Common.{lit<, strip_prefix_char}
use Rattle.smithy_binding.proofs.QueryEnds.{behind_first-cut}
use Rattle.smithy_binding.proofs.target.behind_first.Goals as goal

pub returns : goal.returns
returns c = behind_first-cut c.args.query.now c.strip_prefix.result (strip_prefix_char 38 c.args.query.now c.strip_prefix.result c.strip_prefix.ensures.cases (lit< tt))
