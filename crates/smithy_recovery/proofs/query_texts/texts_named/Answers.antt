use Rattle.std.proofs.Common.{ap, ◌∙◌, subst}
use Rattle.smithy_types.specs.Results.{each}
use Rattle.smithy_recovery.specs.Finding.{Finds}
use Rattle.smithy_recovery.specs.views.Pieces.{named_left}
use Rattle.smithy_recovery.specs.QueryParts.{piece_text}
use Rattle.smithy_recovery.proofs.query_texts.texts_named.Goals as goal

pub returns-in-Some : goal.returns-in-Some
returns-in-Some c =
    subst (λ ps. Finds (λ w. w) c.texts_of.result (each piece_text ps)) (c.in-Some.ensures ∙ ap (named_left c.args.own.now c.args.pieces.now) (c.as_str.ensures ∙ c.in_ok-escaped.ensures)) c.texts_of.ensures
