use Rattle.smithy_binding.proofs.Common.{◌≡◌, ap, sym, ◌∙◌, on_ok_weaker, schema_of, directed_of, writes_in, list, element_fault, item_fault}
use Rattle.smithy_binding.proofs.Directions.{list_fault-in}
use Rattle.smithy_binding.proofs.Refusals.{IfErr-then}
use Rattle.smithy_binding.proofs.elements.test_list.Goals as goal

pub returns : goal.returns
returns c =
    let m = schema_of c.args.member.schema in
    let ws = writes_in c.args.table.now c.args.elements.now in
    let same : item_fault (directed_of c.args.member) (list ws) ≡ element_fault m c.element_kind.result ws =
    list_fault-in c.args.member.way m ws ∙ ap (λ k. element_fault m k ws) (sym c.element_kind.ensures) in
    record {
      ok = on_ok_weaker c.test_elements.result (λ e. same ∙ e) c.test_elements.ensures.ok;
      err = IfErr-then c.test_elements.result _ _ (λ f e. same ∙ e) c.test_elements.ensures.err;
    }
