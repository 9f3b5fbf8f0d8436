use Rattle.std.proofs.Common.{◌≡◌, map, take}
use Rattle.smithy_http.specs.views.Pairs.{pair_of}
use Rattle.smithy_http.proofs.headers.headers_of.Given as goal

abbrev pub invariant-loop-pair : goal.invariant-loop-pair
invariant-loop-pair l = l.headers ≡ map pair_of (take l.pair-index l.pairs)
