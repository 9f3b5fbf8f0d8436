use Rattle.smithy_binding.proofs.Common.{rules, ◌≡◌, ap, sym, ◌∙◌, Some, None, IfErr, binding_of, directed_of, value_in, place_at, member_text, no_year, TellsFault}
use Rattle.smithy_schema.specs.ShownBindings.{binding_shown}
use Rattle.smithy_binding.proofs.NameSteps.{bound-header}
use Rattle.smithy_binding.proofs.FirstWrites.{text-placed, first_fault-value, single-no_year}
use Rattle.smithy_binding.proofs.Refusals.{IfErr-then}
use Rattle.smithy_binding.proofs.placement.add_single.Goals as goal

pub returns-in_err-text-clause-put : goal.returns-in_err-text-clause-put
returns-in_err-text-clause-put g c = λ t.
    let m = directed_of c.args.member in
    let v = value_in t c.args.value.now in
    let refused = c.in_err-text.ensures.err t in
    let told : IfErr c.from_residual.result (λ e. TellsFault e (λ f. (f ≡ no_year) × (member_text (place_at (binding_of m)) m v ≡ None))) = search rules in
    record {
      ok = search rules;
      put = search rules;
      body = search rules;
      err = IfErr-then c.from_residual.result _ _
          (λ f e. first_fault-value m v f (text-placed (binding_of m) c.requires.placed) (single-no_year m v (c.requires.single t) e.1 ∙ ap Some (sym e.0))) told;
    }

pub put_named-requires-clause-name : goal.put_named-requires-clause-name
put_named-requires-clause-name g c = bound-header c.args.member c.in-Header.name.now (ap binding_shown (sym c.in-Header.is) ∙ c.requires.bound)
