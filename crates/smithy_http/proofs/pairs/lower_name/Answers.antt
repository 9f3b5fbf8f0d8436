use Rattle.std.proofs.Common.{ap, ◌∙◌}
use Rattle.std.specs.Str.{str_to_ascii_lowercase}
use Rattle.smithy_http.proofs.ValueLemmas.{lower_twice}
use Rattle.smithy_http.proofs.pairs.lower_name.Goals as goal

pub returns-clause-twice : goal.returns-clause-twice
returns-clause-twice c = ap str_to_ascii_lowercase c.in_ok-to_ascii_lowercase.ensures.ok ∙ lower_twice c.args.name.now
