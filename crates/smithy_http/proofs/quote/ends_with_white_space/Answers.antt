use Rattle.std.proofs.Common.{sym, ◌∙◌}
use Rattle.std.specs.Str.Iter.{chars_rest}
use Rattle.std.proofs.lemmas.List.{nil_from_length}
use Rattle.smithy_http.proofs.QuoteLemmas.{ends-char, ends-nothing}
use Rattle.smithy_http.proofs.quote.ends_with_white_space.Goals as goal

pub returns-in-Some : goal.returns-in-Some
returns-in-Some c =
    let split = sym c.chars.ensures.rest ∙ c.in-Some.ensures.steps in
    let kept = rw c.in-Some.is at c.next_back.type_inv in
    c.is_whitespace.ensures ∙ sym (ends-char c.args.text.now (chars_rest c.next_back.new.self) c.in-Some.c c.utf8.text kept.1.1.1.1.0.1 split)

pub returns-in-None : goal.returns-in-None
returns-in-None c = sym (ends-nothing c.args.text.now (sym c.chars.ensures.rest ∙ nil_from_length _ c.in-None.ensures.steps.0))
