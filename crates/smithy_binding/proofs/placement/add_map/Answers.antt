use Rattle.smithy_binding.proofs.Common.{rules, ap, sym, ◌∙◌, string_bytes, directed_of, writes_in, gathered_of}
use Rattle.smithy_schema.specs.ShownBindings.{binding_shown}
use Rattle.smithy_serde.specs.Values.{map}
use Rattle.smithy_binding.proofs.FirstKinds.{placed-query_map}
use Rattle.smithy_binding.proofs.placement.add_map.Goals as goal

pub returns-in_ok-push_entries-in-QueryMap : goal.returns-in_ok-push_entries-in-QueryMap
returns-in_ok-push_entries-in-QueryMap c = record {
  ok = search rules;
  put =
      placed-query_map (directed_of c.args.schema) (directed_of c.args.member) (map (writes_in c.args.table.now c.args.entries.now)) (gathered_of c.args.parts.now) (string_bytes c.push_entries.new.query) (ap binding_shown (sym c.in-QueryMap.is) ∙ c.requires.bound)
      (c.in_ok-push_entries-in-QueryMap.ensures c.args.table.now);
  body = search rules;
  err = search rules;
}
