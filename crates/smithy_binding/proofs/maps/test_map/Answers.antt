use Rattle.smithy_binding.proofs.Common.{◌∙◌, on_ok_weaker, schema_of, writes_in}
use Rattle.smithy_binding.proofs.Directions.{map_fault-in}
use Rattle.smithy_binding.proofs.Refusals.{IfErr-then}
use Rattle.smithy_binding.proofs.maps.test_map.Goals as goal

pub returns : goal.returns
returns c =
    let same = map_fault-in c.args.member.way (schema_of c.args.member.schema) (writes_in c.args.table.now c.args.entries.now) in
    record {
      ok = on_ok_weaker c.test_whole_map.result (λ e. same ∙ e) c.test_whole_map.ensures.ok;
      err = IfErr-then c.test_whole_map.result _ _ (λ f e. same ∙ e) c.test_whole_map.ensures.err;
    }
