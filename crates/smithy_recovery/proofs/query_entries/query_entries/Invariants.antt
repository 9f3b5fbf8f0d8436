use Rattle.std.proofs.Common.{◌≡◌, [], Some, length}
use Rattle.smithy_http.specs.Facts.{query_pieces}
use Rattle.smithy_schema.specs.References.{schema_of}
use Rattle.smithy_recovery.specs.views.KeptQueries.{entries_in, pieces_put, AreKeptDefined}
use Rattle.smithy_recovery.specs.views.Pieces.{pieces_left}
use Rattle.smithy_recovery.proofs.query_entries.query_entries.Given as goal

abbrev pub invariant-loop-piece : goal.invariant-loop-piece
invariant-loop-piece l =
    record {
      entries : pieces_put l.own l.pieces l.names (Some (schema_of l.here)) (pieces_left l.rest) (entries_in (schema_of l.here).table l.entries)
          ≡ pieces_put l.own l.pieces l.names (Some (schema_of l.here)) (query_pieces l.target) [];
      defined : AreKeptDefined (schema_of l.here).table l.entries;
    }

abbrev pub decreases-loop-piece : goal.decreases-loop-piece
decreases-loop-piece l = length (pieces_left l.rest)
