use Rattle.std.proofs.Common.{map, take}
use Rattle.smithy_http.specs.views.Pairs.{name_of, IsIndex}
use Rattle.smithy_http.proofs.pairs.mapped.Given as goal

abbrev pub invariant-loop-place : goal.invariant-loop-place
invariant-loop-place l = IsIndex l.places (map name_of (take l.place l.pairs))
