use Rattle.smithy_binding.proofs.Common.{rules, ◌≡◌, sym, ◌∙◌, Some, option_map, IfErr, schema_of, value_in, part_fault, TellsFault}
use Rattle.smithy_binding.proofs.MapEntries.{entry-more, entry-stop, entry-end}
use Rattle.smithy_binding.proofs.Refusals.{IfErr-then}
use Rattle.smithy_binding.proofs.maps.test_entries.Goals as goal

pub loop-value-preserved : goal.loop-value-preserved
loop-value-preserved c =
    let t = c.args.table.now in
    sym (entry-more t (schema_of c.args.member) _ _ _ _ _ c.in-Some.ensures.steps c.in_ok-test_part.ensures.ok) ∙ c.loop-value.invariant

pub returns-in_err-test_part : goal.returns-in_err-test_part
returns-in_err-test_part c =
    let t = c.args.table.now in
    let m = schema_of c.args.member in
    let here = option_map schema_of c.loop-value.node in
    let told : IfErr c.from_residual.result (λ e. TellsFault e (λ f. part_fault m here (value_in t c.in-Some.value.now) ≡ Some f)) = search rules in
    record {
      ok = search rules;
      err = IfErr-then c.from_residual.result _ _ (λ f e. sym c.loop-value.invariant ∙ entry-stop t m _ _ _ _ _ c.in-Some.ensures.steps f e) told;
    }

pub returns : goal.returns
returns c = record { ok = sym c.loop-value.invariant ∙ entry-end c.args.table.now (schema_of c.args.member) _ _ _ c.in-None.ensures.steps.0; err = tt }
