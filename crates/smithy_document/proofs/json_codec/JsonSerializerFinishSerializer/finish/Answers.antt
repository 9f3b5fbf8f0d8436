use Rattle.smithy_document.proofs.Common.{◌≡◌, None, sym, ap, ◌∙◌, subst, json_text}
use Rattle.smithy_serde.specs.Finishing.{IsFinishedText}
use Rattle.smithy_document.proofs.JsonCalls.{finished_text, none_open}
use Rattle.smithy_document.proofs.json_codec.JsonSerializerFinishSerializer.finish.Goals as goal

pub returns-in-None : goal.returns-in-None
returns-in-None c =
    let none : c.args.self.refusal ≡ None = sym c.into_kept.ensures ∙ c.in-None.is in
    let text = c.from_vec.ensures ∙ ap (λ v. v.items) c.into_text.ensures in
    (none, λ lawful s h. subst (IsFinishedText json_text s.current) (sym text) (finished_text c.args.self s (none_open _ _ none c.requires) none h))
