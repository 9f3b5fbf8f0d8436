use Rattle.std.proofs.Common.{lit<}
use Rattle.std.proofs.lemmas.Str.Pattern.{strip_suffix_char}
use Rattle.smithy_schema.proofs.CutLemmas.{greedy_cases}
use Rattle.smithy_schema.proofs.first_hole.greedy_name.Goals as goal

pub returns : goal.returns
returns c = greedy_cases c.args.hole.now c.strip_suffix.result (strip_suffix_char 43 c.args.hole.now c.strip_suffix.result c.strip_suffix.ensures.cases (lit< tt))
