use Rattle.std.proofs.Common.{map, take}
use Rattle.smithy_http.specs.views.Pairs.{name_of, Rise}
use Rattle.smithy_http.proofs.pairs.all_rise.Given as goal

abbrev pub invariant-loop-place : goal.invariant-loop-place
invariant-loop-place l = Rise (map name_of (take l.place l.pairs))
