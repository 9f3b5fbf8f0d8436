use Rattle.std.proofs.Common.{◌≡◌, Ok, ◌++◌, sym, ◌∙◌, ap}
use Rattle.std.specs.Str.{str_to_ascii_lowercase}
use Rattle.smithy_http.specs.Facts.{values_at}
use Rattle.smithy_http.specs.HeaderValues.{tokens_of}
use Rattle.smithy_http.proofs.HeaderValueLaws.{spelled-tokens_of}
use Rattle.smithy_http.proofs.header_parse.tokens.Goals as goal

pub returns-clause-spelled : goal.returns-clause-spelled
returns-clause-spelled c =
    let headers = c.args.headers.now in
    let read = c.in_ok-push_texts.ensures.ok in
    let values : c.get_all_bytes.result ≡ values_at (str_to_ascii_lowercase c.args.name.now) headers =
    c.get_all_bytes.ensures ∙ ap (λ n. values_at (str_to_ascii_lowercase n) headers) c.as_str.ensures.value ∙ ap (λ n. values_at n headers) c.in_ok-lower.ensures.twice in
    let words : read.items ≡ c.push_texts.new.words = sym (read.added ∙ ap (λ ws. ws ++ read.items) c.new-words.ensures) in
    spelled-tokens_of (values_at (str_to_ascii_lowercase c.args.name.now) headers) c.push_texts.new.words
    (sym (ap tokens_of values) ∙ read.are_read ∙ ap (λ ws. Ok ws) words)
