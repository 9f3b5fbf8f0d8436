use Rattle.std.proofs.Common.{◌≡◌, true, sym, ap, ◌∙◌}
use Rattle.std.specs.List.{list_all}
use Rattle.smithy_json.specs.views.JsonView.{view, entries}
use Rattle.smithy_schema.specs.DescribedTraits.{traits_described}
use Rattle.smithy_model.specs.Further.{further_traits}
use Rattle.smithy_model.specs.views.ModelView.{further_given}
use Rattle.smithy_model.specs.Traits.{is_named_trait}
use Rattle.smithy_model.proofs.FurtherLemmas.{none_without_field, fit_known}
use Rattle.smithy_model.proofs.traits.fit_traits.Goals as goal
use Rattle.smithy_model.proofs.traits.fit_traits.Goals.{then-are_named, else-are_named}

pub returns : goal.returns
returns c =
    let d = view c.args.traits.now in
    let es = entries c.in_ok-members_of.field-0.now in
    let plain = traits_described c.in_ok-plain.plain in
    let further : further_given c.if-are_named.given ≡ further_traits d =
    elim c.if-are_named.branch [
      | then-are_named w ↦
          let all : list_all (λ e. is_named_trait e.0) es ≡ true = sym c.in_ok-plain.ensures.named ∙ w.if-are_named.true in
          ap further_given w.given-is ∙ none_without_field d es c.in_ok-members_of.ensures all
      | else-are_named w ↦ ap further_given w.given-is
    ] in
    fit_known d es plain (further_given c.if-are_named.given) c.in_ok-members_of.ensures c.in_ok-plain.ensures.plain further
