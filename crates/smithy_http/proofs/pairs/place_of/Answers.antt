use Rattle.std.proofs.Common.{◌∙◌}
use Rattle.smithy_types.specs.Texts.{same_text}
use Rattle.smithy_http.specs.views.Pairs.{name_of}
use Rattle.smithy_http.proofs.PlaceLemmas.{position-map}
use Rattle.smithy_http.proofs.pairs.place_of.Goals as goal

pub returns-in-Mapped : goal.returns-in-Mapped
returns-in-Mapped c =
    let index = rw c.in-Mapped.is at c.requires in
    c.copied.ensures ∙ c.get.ensures.value ∙ index.at c.args.name.now ∙ position-map (λ n. same_text n c.args.name.now) name_of c.args.pairs.now
