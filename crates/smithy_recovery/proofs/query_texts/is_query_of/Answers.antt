use Rattle.std.proofs.Common.{◌≡◌, sym, ap, ◌∙◌}
use Rattle.std.specs.Cmp.Lexicographic.{same_text as same_from_test}
use Rattle.std.proofs.lemmas.Bool.{OnTrue_from}
use Rattle.smithy_recovery.specs.views.Pieces.{pieces_of}
use Rattle.smithy_recovery.proofs.query_texts.is_query_of.Goals as goal

pub returns-in-Some : goal.returns-in-Some
returns-in-Some c =
    let own = c.in-Some.own.now in
    let query = c.args.query.now in
    OnTrue_from _ _
    (λ truth.
    let same : own ≡ query = same_from_test own query (sym truth ∙ c.eq.ensures) in
    ap pieces_of (sym same) ∙ c.in-Some.ensures)
