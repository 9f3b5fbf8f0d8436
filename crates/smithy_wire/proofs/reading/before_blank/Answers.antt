use Rattle.std.proofs.Common.{lit<}
use Rattle.std.proofs.lemmas.Str.Pattern.{strip_suffix_char}
use Rattle.smithy_wire.proofs.BlankLemmas.{blank_cases}
use Rattle.smithy_wire.proofs.reading.before_blank.Goals as goal

pub returns : goal.returns
returns c = blank_cases c.args.text.now c.strip_suffix.result (strip_suffix_char 32 c.args.text.now c.strip_suffix.result c.strip_suffix.ensures.cases (lit< tt))
