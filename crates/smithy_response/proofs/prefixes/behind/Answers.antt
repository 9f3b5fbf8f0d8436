use Rattle.smithy_response.proofs.Texts.{stripped}
use Rattle.smithy_response.proofs.prefixes.behind.Goals as goal

pub returns : goal.returns
returns c = stripped c.strip_prefix.result c.args.prefix.now c.args.name.now c.strip_prefix.ensures.cases
