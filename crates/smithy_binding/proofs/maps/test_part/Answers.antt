use Rattle.smithy_binding.proofs.Common.{ap, sym, ◌∙◌, Some, option_map, on_ok_weaker, schema_of, fits, value_in, wrong_item_kind}
use Rattle.smithy_binding.proofs.MapEntries.{part-wrong, part-fits}
use Rattle.smithy_binding.proofs.Refusals.{TellsFault-then, IfErr-then}
use Rattle.smithy_binding.proofs.maps.test_part.Goals as goal

pub returns-then-not-fits : goal.returns-then-not-fits
returns-then-not-fits c =
    let t = c.args.table.now in
    let m = schema_of c.args.member in
    let here = option_map schema_of c.args.node in
    let v = value_in t c.args.value.now in
    let wrong = ap (λ k. fits k v) (sym c.kind_of-kind.ensures) ∙ sym (c.fits.ensures t) ∙ c.if-not-fits.true in
    record {
      ok = tt;
      err = TellsFault-then c.wrong_item.result _ _ (λ f e. part-wrong m here v wrong ∙ ap (λ k. Some (wrong_item_kind m k v)) (sym c.kind_of-kind.ensures) ∙ ap Some (sym e)) (c.wrong_item.ensures t);
    }

pub returns : goal.returns
returns c =
    let t = c.args.table.now in
    let m = schema_of c.args.member in
    let here = option_map schema_of c.args.node in
    let v = value_in t c.args.value.now in
    let fit = ap (λ k. fits k v) (sym c.kind_of-kind.ensures) ∙ sym (c.fits.ensures t) ∙ c.if-not-fits.false in
    record {
      ok = on_ok_weaker c.test_nested.result (λ none. part-fits m here v fit ∙ none) c.test_nested.ensures.ok;
      err = IfErr-then c.test_nested.result _ _ (λ f e. part-fits m here v fit ∙ e) c.test_nested.ensures.err;
    }
