use Rattle.std.proofs.Common.{sym, ◌∙◌}
use Rattle.std.proofs.lemmas.Bool.{OnTrue_at, OnTrue_from}
use Rattle.smithy_recovery.proofs.query_texts.has_same_query.Goals as goal

pub returns-in-Some : goal.returns-in-Some
returns-in-Some c = OnTrue_from _ _ (λ truth. sym c.in-Some.ensures ∙ OnTrue_at truth c.is_query_of.ensures)
