use Rattle.std.proofs.Common.{◌≡◌, ◌*◌, ◌+◌, Some}
use Rattle.smithy_schema.specs.References.{schema_of}
use Rattle.smithy_serde.specs.Shaped.{are_shaped, are_entries_shaped, are_fields_shaped}
use Rattle.smithy_serde.specs.StoredValues.{value_in, writes_in, listed}
use Rattle.smithy_recovery.specs.Shallow.{value_nesting, writes_nesting}
use Rattle.smithy_recovery.specs.views.KnownShapes.{AreKnown}
use Rattle.smithy_recovery.specs.views.ShapedParts.{are_parts_shaped}
use Rattle.smithy_recovery.proofs.Shaping.{Still}
use Rattle.smithy_recovery.proofs.shaped.+shaped.Given as goal

-- each group counts three times, so that its writes count between it and their values, and a part before its value

abbrev pub decreases-is_followed : goal.decreases-is_followed
decreases-is_followed l = 3 * value_nesting (value_in l.table.now l.value.now)

abbrev pub decreases-is_part_followed : goal.decreases-is_part_followed
decreases-is_part_followed l = 3 * value_nesting (value_in l.table.now l.part.now) + 1

abbrev pub decreases-are_elements_followed : goal.decreases-are_elements_followed
decreases-are_elements_followed l = 3 * writes_nesting (writes_in l.table.now l.elements.now) + 2

abbrev pub decreases-are_entries_followed : goal.decreases-are_entries_followed
decreases-are_entries_followed l = 3 * writes_nesting (writes_in l.table.now l.entries.now) + 2

abbrev pub decreases-are_fields_followed : goal.decreases-are_fields_followed
decreases-are_fields_followed l = 3 * writes_nesting (writes_in l.table.now l.fields.now) + 2

abbrev pub invariant-are_elements_followed-parts : goal.invariant-are_elements_followed-parts
invariant-are_elements_followed-parts l = record {
  still : Still l.table l.part-iterator (writes_in l.table l.elements);
  same : are_shaped (Some (schema_of l.element)) (listed l.table l.part-iterator) ≡ are_shaped (Some (schema_of l.element)) (writes_in l.table l.elements);
  known : AreKnown l.table l.known;
}

abbrev pub invariant-are_entries_followed-parts : goal.invariant-are_entries_followed-parts
invariant-are_entries_followed-parts l = record {
  still : Still l.table l.part-iterator (writes_in l.table l.entries);
  same : are_parts_shaped l.is_key (Some (schema_of l.entry)) (listed l.table l.part-iterator) ≡ are_entries_shaped (Some (schema_of l.entry)) (writes_in l.table l.entries);
  known : AreKnown l.table l.known;
}

abbrev pub invariant-are_fields_followed-parts : goal.invariant-are_fields_followed-parts
invariant-are_fields_followed-parts l = record {
  still : Still l.table l.place-iterator (writes_in l.table l.fields);
  same : are_fields_shaped (Some (schema_of l.node)) (listed l.table l.place-iterator) ≡ are_fields_shaped (Some (schema_of l.node)) (writes_in l.table l.fields);
  known : AreKnown l.table l.known;
}
