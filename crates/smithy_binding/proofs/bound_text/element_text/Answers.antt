use Rattle.smithy_binding.proofs.Common.{◌≡◌, sym, ◌∙◌, false, None, value_in, no_year}
use Rattle.smithy_strings.specs.Wire.{wire}
use Rattle.smithy_binding.proofs.Refusals.{IfErr-at, IfErr-then}
use Rattle.smithy_binding.proofs.bound_text.element_text.Goals as goal

pub returns-clause-err : goal.returns-clause-err
returns-clause-err c =
    let t = c.args.table.now in
    IfErr-then c.text_or_no_year.result _ _ (λ f e. (e.0, sym (λ i. wire (c.format_at.ensures i) false c.args.place (value_in t c.args.value.now)) ∙ e.1))
    (IfErr-at c.text_or_no_year.result (λ t f. (f ≡ no_year) × (wire c.format_at.result false c.args.place (value_in t c.args.value.now) ≡ None)) t c.text_or_no_year.ensures.err)
