use Rattle.std.proofs.Common.{◌≡◌, ◌&&◌, true, false, sym, ap, ◌∙◌}
use Rattle.smithy_json.specs.views.JsonView.{view}
use Rattle.smithy_model.specs.Names.{is_full_name}
use Rattle.smithy_model.specs.Traits.{has_form}
use Rattle.smithy_model.proofs.TraitNames.{named_full}
use Rattle.smithy_model.proofs.traits.is_fit.Goals as goal
use Rattle.smithy_model.proofs.traits.is_fit.Goals.{then-is_named, else-is_named}

pub returns-then-is_full_name : goal.returns-then-is_full_name
returns-then-is_full_name c =
    let id = c.args.given.now.0.now in
    let full : is_full_name id ≡ true =
    elim c.if-is_named.branch [
      | then-is_named w ↦ named_full id (sym c.requires ∙ w.if-is_named.true)
      | else-is_named w ↦ sym w.is_full_name.ensures ∙ sym w.value-is ∙ c.if-is_full_name.true
    ] in
    c.has_form.ensures ∙ ap (λ b. b && has_form id (view c.args.given.now.1)) (sym full)

pub returns-else-is_full_name : goal.returns-else-is_full_name
returns-else-is_full_name c =
    let id = c.args.given.now.0.now in
    let not_full : is_full_name id ≡ false =
    elim c.if-is_named.branch [
      | then-is_named w ↦ let no : true ≡ false = sym w.if-is_named.true ∙ sym w.value-is ∙ c.if-is_full_name.false in absurd (cc no)
      | else-is_named w ↦ sym w.is_full_name.ensures ∙ sym w.value-is ∙ c.if-is_full_name.false
    ] in
    c.if-is_full_name.false ∙ ap (λ b. b && has_form id (view c.args.given.now.1)) (sym not_full)
