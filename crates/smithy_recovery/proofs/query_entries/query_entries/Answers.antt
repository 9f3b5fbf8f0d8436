use Rattle.std.proofs.Common.{rules, sym, ◌∙◌, [], Some, None}
use Rattle.smithy_http.specs.Facts.{query_pieces}
use Rattle.smithy_schema.specs.References.{schema_of}
use Rattle.smithy_recovery.specs.views.KeptQueries.{entries_in, under_put, pieces_put}
use Rattle.smithy_recovery.specs.views.Pieces.{pieces_left, shown_pieces}
use Rattle.smithy_recovery.proofs.QueryKept.{piece_put, entries_refused}
use Rattle.smithy_recovery.proofs.query_entries.query_entries.Goals as goal

pub loop-piece-preserved : goal.loop-piece-preserved
loop-piece-preserved c =
    let n = schema_of c.args.here in
    record {
      entries = sym (piece_put c.args.own.now c.args.pieces.now c.args.names.now (Some n) c.in-Some.piece.now c.name_of-name.result.now (pieces_left c.loop-piece.rest) (pieces_left c.in-Some.behind)
          (shown_pieces c.named_left-named.result) (entries_in n.table c.loop-piece.entries) (Some (entries_in n.table c.put_left.new.entries)) c.in-Some.ensures c.name_of-name.ensures
          c.named_left-named.ensures c.in_ok-put_left.ensures.put)
          ∙ c.loop-piece.invariant.entries;
      defined = c.in_ok-put_left.ensures.defined c.loop-piece.invariant.defined;
    }

pub returns-in_err-put_left : goal.returns-in_err-put_left
returns-in_err-put_left c =
    let n = schema_of c.args.here in
    let before = entries_in n.table c.loop-piece.entries in
    entries_refused {A = Unit {0}} n.table (λ _. entries_in n.table c.put_left.new.entries) (under_put c.args.names.now (Some n) c.name_of-name.result.now (shown_pieces c.named_left-named.result) before)
    (pieces_put c.args.own.now c.args.pieces.now c.args.names.now (Some n) (query_pieces c.args.target.now) []) c.in_err-put_left.field-0.0 c.from_residual.result (search rules)
    (λ none. sym c.loop-piece.invariant.entries
    ∙ piece_put c.args.own.now c.args.pieces.now c.args.names.now (Some n) c.in-Some.piece.now c.name_of-name.result.now (pieces_left c.loop-piece.rest) (pieces_left c.in-Some.behind)
    (shown_pieces c.named_left-named.result) before None c.in-Some.ensures c.name_of-name.ensures c.named_left-named.ensures none)
    c.in_err-put_left.ensures.put
