use Rattle.std.proofs.Common.{sym, ap, ◌∙◌, drop, map, ℕ, List}
use Rattle.std.specs.Borrow.{Bor}
use Rattle.smithy_recovery.specs.views.Pieces.{pieces_under}
use Rattle.smithy_recovery.proofs.Grouped.{drop_map, pieces_found}
use Rattle.smithy_recovery.proofs.query_texts.named_left.Goals as goal

pub returns-in-Some : goal.returns-in-Some
returns-in-Some c =
    ap (map (λ (p : Bor (List ℕ)). p.now)) (c.behind.ensures ∙ ap (drop c.count.result) c.as_slice.ensures.value)
    ∙ sym (drop_map (λ (p : Bor (List ℕ)). p.now) c.count.result c.in-Some.named.now.items)
    ∙ ap (drop c.count.result) (pieces_found c.args.pieces.now c.args.name.now c.in-Some.named.now c.in-Some.ensures.value)
    ∙ ap (λ n. drop n (pieces_under c.args.pieces.now c.args.name.now)) c.count.ensures
