use Rattle.std.proofs.Common.{◌++◌, ap, sym, ◌∙◌, string_bytes, encode_utf8}
use Rattle.std.proofs.lemmas.List.{append_assoc}
use Rattle.smithy_http.specs.Quoting.{mark_before}
use Rattle.smithy_http.proofs.QuoteLemmas.{paired-char}
use Rattle.smithy_http.proofs.quote.push_paired_char.Goals as goal

pub returns-clause-ok : goal.returns-clause-ok
returns-clause-ok c =
    let list = string_bytes c.args.list.now in
    c.in_ok-push.ensures.bytes
    ∙ ap (λ xs. xs ++ encode_utf8 c.args.c) (c.in_ok-push_str.ensures.bytes ∙ ap (λ xs. list ++ xs) c.mark_before.ensures)
    ∙ append_assoc list (mark_before c.args.c) (encode_utf8 c.args.c)
    ∙ ap (λ xs. list ++ xs) (sym (paired-char c.args.c))
