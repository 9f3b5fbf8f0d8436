use Rattle.std.proofs.Common.{◌≡◌, drop, map}
use Rattle.smithy_schema.specs.Nodes.{Table}
use Rattle.smithy_serde.specs.NormalBody.{entry_writes}
use Rattle.smithy_serde.specs.StoredValues.{label_at, writes_in, HasNode, AreDefined}
use Rattle.smithy_serde.specs.Told.{appended}
use Rattle.smithy_recovery.specs.views.KeptEntries.{last_entries}
use Rattle.smithy_recovery.specs.views.NameOrder.{text_seen}
use Rattle.smithy_recovery.proofs.prefix_entries.entry_list.Given as goal

abbrev pub invariant-loop-i : goal.invariant-loop-i
invariant-loop-i l =
    record {
      writes : (t : Table)
          → appended (writes_in t l.writes) (entry_writes (label_at t l.places.0.0) (label_at t l.places.1.0) (last_entries (map text_seen (drop l.i l.entries))))
          ≡ entry_writes (label_at t l.places.0.0) (label_at t l.places.1.0) (last_entries (map text_seen l.entries));
      defined : (t : Table) → HasNode t l.places.0.0 → HasNode t l.places.1.0 → AreDefined t l.writes;
    }
