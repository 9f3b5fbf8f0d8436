use Rattle.std.proofs.Common.{◌∙◌}
use Rattle.smithy_schema.specs.References.{schema_of}
use Rattle.smithy_recovery.proofs.EntriesPut.{placed_in}
use Rattle.smithy_recovery.proofs.map_writes.entry_places.Goals as goal

pub returns : goal.returns
returns c =
    let m = schema_of c.args.member in
    record {
      key_node = placed_in m (schema_of c.in-Some.key) m.node.key c.own_place.result.0 c.in-Some.ensures c.own_place.ensures ∙ c.in-Some.ensures;
      value_node = placed_in m (schema_of c.in-Some-value.value) m.node.value c.own_place-2.result.0 c.in-Some-value.ensures c.own_place-2.ensures ∙ c.in-Some-value.ensures;
    }
