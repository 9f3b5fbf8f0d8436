use Rattle.std.proofs.Common.{ap, sym, Some}
use Rattle.smithy_schema.specs.References.{schema_of}
use Rattle.smithy_serde.specs.StoredValues.{value_in, writes_in, IsDefined}
use Rattle.smithy_recovery.specs.views.KeptQueries.{entries_in}
use Rattle.smithy_recovery.proofs.EntriesPut.{own_map, key_there, value_there}
use Rattle.smithy_recovery.proofs.query_entries.map_of.Goals as goal

pub returns : goal.returns
unfolding value_in IsDefined
returns c =
    let m = schema_of c.args.member in
    let i = c.entry_places.result.0.0 in
    let j = c.entry_places.result.1.0 in
    record {
      value = ap Some (sym (own_map m i j (writes_in m.table c.in_ok-writes.writes) (entries_in m.table c.args.entries) c.entry_places.ensures (c.in_ok-writes.ensures.writes m.table)));
      defined = c.in_ok-writes.ensures.defined m.table (key_there m i j c.entry_places.ensures c.requires.nodes) (value_there m i j c.entry_places.ensures c.requires.nodes) c.requires.defined;
    }
