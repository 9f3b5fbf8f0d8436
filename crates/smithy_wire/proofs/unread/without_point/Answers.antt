use Rattle.std.proofs.Common.{Some, None, lit<}
use Rattle.std.proofs.lemmas.Str.Pattern.{strip_prefix_char}
use Rattle.smithy_wire.proofs.PathLemmas.{point_off, point_none}
use Rattle.smithy_wire.proofs.unread.without_point.Goals as goal

pub returns-in-Some : goal.returns-in-Some
returns-in-Some c = point_off c.args.path.now c.in-Some.rest.now (strip_prefix_char 46 c.args.path.now (Some c.in-Some.rest) c.in-Some.ensures.cases (lit< tt))

pub returns-in-None : goal.returns-in-None
returns-in-None c = point_none c.args.path.now (strip_prefix_char 46 c.args.path.now None c.in-None.ensures.cases (lit< tt))
