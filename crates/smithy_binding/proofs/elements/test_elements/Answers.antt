use Rattle.smithy_binding.proofs.Common.{ap, sym, ◌∙◌, Some, schema_of}
use Rattle.smithy_binding.proofs.ElementSteps.{fault-more, fault-stop, fault-end}
use Rattle.smithy_binding.proofs.Refusals.{TellsFault-then}
use Rattle.smithy_binding.proofs.elements.test_elements.Goals as goal

pub loop-value-preserved : goal.loop-value-preserved
loop-value-preserved c =
    let t = c.args.table.now in
    sym (fault-more t (schema_of c.args.member) c.args.kind _ _ _ c.in-Some.ensures.steps (sym (c.fits.ensures t) ∙ c.if-not-fits.false)) ∙ c.loop-value.invariant

pub returns-then-not-fits : goal.returns-then-not-fits
returns-then-not-fits c =
    let t = c.args.table.now in
    record {
      ok = tt;
      err = TellsFault-then c.wrong_item.result _ _
          (λ f e. sym c.loop-value.invariant ∙ fault-stop t (schema_of c.args.member) c.args.kind _ _ _ c.in-Some.ensures.steps (sym (c.fits.ensures t) ∙ c.if-not-fits.true) ∙ ap Some (sym e))
          (c.wrong_item.ensures t);
    }

pub returns : goal.returns
returns c = record { ok = sym c.loop-value.invariant ∙ fault-end c.args.table.now (schema_of c.args.member) c.args.kind _ c.in-None.ensures.steps.0; err = tt }
