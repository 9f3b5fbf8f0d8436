use Rattle.std.proofs.Common.{◌++◌, ap, ◌∙◌}
use Rattle.json.specs.Token.{string}
use Rattle.smithy_document.proofs.JsonShownLemmas.{token_written}
use Rattle.smithy_document.proofs.json_scalars.push_escaped.Goals as goal

pub returns : goal.returns
returns c =
    let whole =
    token_written (string c.args.value.now) c.new-writer.result c.string.new.self (c.new-writer.ensures.before ∙ c.new.ensures.items) c.new-writer.ensures.tokens c.string.ensures.room.0
    c.in_ok-string.ensures.ok c.into_inner.ensures.items in
    c.in_ok-extend_from_slice.ensures.items ∙ ap (λ t. c.args.text.now.items ++ t) (c.deref.ensures.value ∙ whole)
