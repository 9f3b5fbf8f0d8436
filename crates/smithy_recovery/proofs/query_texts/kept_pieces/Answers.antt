use Rattle.std.proofs.Common.{subst, length, drop}
use Rattle.smithy_http.specs.Facts.{query_pieces}
use Rattle.smithy_recovery.specs.views.Pieces.{HasLeft}
use Rattle.smithy_recovery.proofs.Grouped.{none_left}
use Rattle.smithy_recovery.proofs.query_texts.kept_pieces.Goals as goal

pub returns-then-has_same_query : goal.returns-then-has_same_query
returns-then-has_same_query c =
    let ps = query_pieces c.args.template.now in
    let own = c.no_pieces-own.result in
    let pieces = c.no_pieces-pieces.result in
    subst (λ qs. HasLeft ps qs own pieces) c.if-has_same_query.ensures (none_left own pieces ps c.no_pieces-pieces.ensures)

pub returns : goal.returns
returns c = λ name i. drop (length (c.in_ok-own.ensures name i)) (c.in_ok-pieces.ensures name i)
