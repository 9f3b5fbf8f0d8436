use Rattle.std.proofs.Common.{◌≡◌, ◌++◌, length, map}
use Rattle.smithy_http.specs.Facts.{query_pieces, named_piece}
use Rattle.smithy_recovery.specs.views.NameOrder.{named_seen}
use Rattle.smithy_recovery.specs.views.Pieces.{pieces_left}
use Rattle.smithy_recovery.proofs.same_facts.query_pairs.Given as goal

abbrev pub invariant-loop-piece : goal.invariant-loop-piece
invariant-loop-piece l = map named_seen l.pairs.items ++ map named_piece (pieces_left l.rest) ≡ map named_piece (query_pieces l.target)

abbrev pub decreases-loop-piece : goal.decreases-loop-piece
decreases-loop-piece l = length (pieces_left l.rest)
