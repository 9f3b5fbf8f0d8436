use Rattle.std.proofs.Common.{◌≡◌, ◌∷◌, [], ◌++◌, true, OnOk, sym, ap, ◌∙◌, subst}
use Rattle.std.specs.List.{list_all}
use Rattle.smithy_document.specs.views.JsonShown.{is_plain_byte}
use Rattle.smithy_document.proofs.JsonShownLemmas.{plain_escape}
use Rattle.smithy_document.proofs.json_scalars.push_quoted.Goals as goal

pub returns-then-are_plain : goal.returns-then-are_plain
returns-then-are_plain c =
    let plain : list_all is_plain_byte c.args.value.now ≡ true = ap (list_all is_plain_byte) (sym c.as_bytes.ensures.value) ∙ sym c.are_plain.ensures ∙ c.if-are_plain.true in
    subst (λ t. OnOk c.push_plain.result (c.push_plain.new.text.items ≡ c.args.text.now.items ++ 34 ∷ (t ++ 34 ∷ []))) (sym (plain_escape c.args.value.now plain)) c.push_plain.ensures
