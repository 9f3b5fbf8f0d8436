use Rattle.std.proofs.Common.{◌≡◌, Some, sym, ◌∙◌, subst, ℕ}
use Rattle.smithy_schema.specs.Columns.{cell_at}
use Rattle.smithy_binding.proofs.header_names.SchemaExtensionOptionTextHeaderNames.lower_name.Goals as goal

pub returns-clause-named : goal.returns-clause-named
returns-clause-named g c = λ place name slot trait.
    let at : Some c.in-Some.index.0 ≡ Some place = c.in-Some.ensures.place ∙ slot in
    let same : c.in-Some.index.0 ≡ place = cc at in
    (c.in-Some-Some.field-0.now, subst (λ (p : ℕ). cell_at c.fill.new.self p ≡ Some c.in-Some-Some.field-0.now) same (sym c.in-Some-Some.ensures.cell))
