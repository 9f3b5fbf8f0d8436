use Rattle.smithy_document.proofs.Common.{◌++◌, ap, ◌∙◌, view, json_text, as_data, document_tokens}
use Rattle.json.specs.Print.{print}
use Rattle.serde_json.proofs.Texts.{print-outline}
use Rattle.smithy_document.proofs.printing.json_blob.Goals as goal

pub returns : goal.returns
unfolding json_text
returns c =
    let ts = document_tokens (view c.args.document.now) in
    let w = c.print_document.new.writer in
    let printed = c.in_ok-print_document.ensures in
    let before = printed.0 ∙ c.new-writer.ensures.before ∙ c.in_ok-with_capacity.ensures.items in
    let tokens = printed.1 ∙ ap (λ us. us ++ ts) c.new-writer.ensures.tokens in
    c.from_vec.ensures ∙ c.into_inner.ensures.items ∙ ap (λ bs. bs ++ print w.tokens) before ∙ ap print tokens ∙ print-outline (as_data (view c.args.document.now))
