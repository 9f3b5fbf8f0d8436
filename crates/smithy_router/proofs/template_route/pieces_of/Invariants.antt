use Rattle.smithy_router.proofs.Common.{◌≡◌, ◌++◌, map, length, string_bytes, parts_left}
use Rattle.smithy_router.proofs.template_route.pieces_of.Given as goal

abbrev pub invariant-loop-piece : goal.invariant-loop-piece
invariant-loop-piece l = map string_bytes l.pieces.items ++ parts_left 38 l.rest ≡ parts_left 38 l.initial.rest

abbrev pub decreases-loop-piece : goal.decreases-loop-piece
decreases-loop-piece l = length (parts_left 38 l.rest)
