use Rattle.std.proofs.Common.{◌≡◌, ◌++◌, ℕ, List, length}
use Rattle.smithy_http.specs.Facts.{query_pieces}
use Rattle.smithy_recovery.specs.views.Pieces.{pieces_left, pieces_under}
use Rattle.smithy_recovery.specs.QueryParts.{pieces_named}
use Rattle.smithy_recovery.proofs.query_texts.named_pieces.Given as goal

abbrev pub invariant-loop-piece : goal.invariant-loop-piece
invariant-loop-piece l = (name : List ℕ) → pieces_under l.pieces name ++ pieces_named name (pieces_left l.rest) ≡ pieces_named name (query_pieces l.target)

abbrev pub decreases-loop-piece : goal.decreases-loop-piece
decreases-loop-piece l = length (pieces_left l.rest)
