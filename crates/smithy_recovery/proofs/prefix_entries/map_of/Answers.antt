use Rattle.std.proofs.Common.{ap, sym, map, Some}
use Rattle.smithy_schema.specs.References.{schema_of}
use Rattle.smithy_serde.specs.StoredValues.{value_in, writes_in, IsDefined}
use Rattle.smithy_recovery.specs.views.KeptEntries.{last_entries}
use Rattle.smithy_recovery.specs.views.NameOrder.{text_seen}
use Rattle.smithy_recovery.proofs.EntriesPut.{own_map, key_there, value_there}
use Rattle.smithy_recovery.proofs.prefix_entries.map_of.Goals as goal

pub returns : goal.returns
unfolding value_in IsDefined
returns c =
    let m = schema_of c.args.member in
    let i = c.entry_places.result.0.0 in
    let j = c.entry_places.result.1.0 in
    let es = last_entries (map text_seen c.args.entries.now) in
    record {
      value = ap Some (sym (own_map m i j (writes_in m.table c.in_ok-writes.writes) es c.entry_places.ensures (c.in_ok-writes.ensures.writes m.table)));
      defined = c.in_ok-writes.ensures.defined m.table (key_there m i j c.entry_places.ensures c.requires) (value_there m i j c.entry_places.ensures c.requires);
    }
