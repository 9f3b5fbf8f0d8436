use Rattle.std.proofs.Common.{◌≡◌, ◌++◌, drop, map, option_map}
use Rattle.smithy_types.specs.Results.{each}
use Rattle.smithy_recovery.specs.QueryParts.{piece_text}
use Rattle.smithy_recovery.proofs.query_texts.texts_of.Given as goal

abbrev pub invariant-loop-piece : goal.invariant-loop-piece
invariant-loop-piece l =
    option_map (λ more. l.words ++ more) (each piece_text (map (λ p. p.now) (drop l.piece-index l.pieces))) ≡ each piece_text (map (λ p. p.now) l.pieces)
