use Rattle.std.proofs.Common.{◌++◌, ap, ◌∙◌, string_bytes}
use Rattle.std.proofs.lemmas.List.{append_assoc}
use Rattle.smithy_http.proofs.Gathering.{OnErr-from}
use Rattle.smithy_http.proofs.quote.push_paired.Goals as goal

pub returns-in_err-push_paired_char-clause-err : goal.returns-in_err-push_paired_char-clause-err
returns-in_err-push_paired_char-clause-err c =
    let before = c.loop-c.invariant.added in
    let part = c.in_err-push_paired_char.ensures.err in
    OnErr-from c.from_residual.result
    (before.0 ++ part.0, part.1 ∙ ap (λ xs. xs ++ part.0) before.1 ∙ append_assoc (string_bytes c.args.list.now) before.0 part.0)
