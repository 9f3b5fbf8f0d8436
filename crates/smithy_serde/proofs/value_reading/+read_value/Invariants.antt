use Rattle.std.proofs.Common.{◌+◌, ◌*◌}
use Rattle.smithy_schema.specs.References.{schema_of}
use Rattle.smithy_serde.specs.declared.scalar.Group.TheVariants as group
use Rattle.smithy_serde.specs.views.ValueBuilding.{list_nodes, map_nodes, struct_table, TakesElement, TakesEntry, TakesMember}
use Rattle.smithy_serde.specs.views.Handing.{Same, at_elements, at_entries, at_members}
use Rattle.smithy_serde.proofs.ReadWalk.{Walking, still_left}
use Rattle.smithy_serde.proofs.value_reading.+read_value.Given as goal

abbrev pub decreases-ListBuilderElementConsumer::element : goal.decreases-ListBuilderElementConsumer::element
decreases-ListBuilderElementConsumer::element g l = 4 * (g.D.ShapeDeserializer.at_hand l.reader.now).levels + 3

abbrev pub decreases-MapBuilderEntryConsumer::entry : goal.decreases-MapBuilderEntryConsumer::entry
decreases-MapBuilderEntryConsumer::entry g l = 4 * (g.D.ShapeDeserializer.at_hand l.reader.now).levels + 3

abbrev pub decreases-StructBuilderMemberConsumer::member : goal.decreases-StructBuilderMemberConsumer::member
decreases-StructBuilderMemberConsumer::member g l = 4 * (g.D.ShapeDeserializer.at_hand l.reader.now).levels + 3

abbrev pub decreases-read_elements : goal.decreases-read_elements
decreases-read_elements g l = 4 * (g.D.ShapeDeserializer.at_hand l.reader.now).levels

abbrev pub decreases-read_entries : goal.decreases-read_entries
decreases-read_entries g l = 4 * (g.D.ShapeDeserializer.at_hand l.reader.now).levels

abbrev pub decreases-read_members : goal.decreases-read_members
decreases-read_members g l = 4 * (g.D.ShapeDeserializer.at_hand l.reader.now).levels

abbrev pub decreases-read_value : goal.decreases-read_value
decreases-read_value g l = 4 * (g.D.ShapeDeserializer.at_hand l.reader.now).levels + 2

abbrev pub decreases-list_value : goal.decreases-list_value
decreases-list_value g l = 4 * (g.D.ShapeDeserializer.at_hand l.reader.now).levels + 1

abbrev pub decreases-map_value : goal.decreases-map_value
decreases-map_value g l = 4 * (g.D.ShapeDeserializer.at_hand l.reader.now).levels + 1

abbrev pub decreases-read_struct_value : goal.decreases-read_struct_value
decreases-read_struct_value g l = 4 * (g.D.ShapeDeserializer.at_hand l.reader.now).levels + 1

abbrev pub invariant-read_elements-loop-consumer : goal.invariant-read_elements-loop-consumer
invariant-read_elements-loop-consumer g l =
    Walking (at_elements TakesElement) (Same list_nodes) group.List (schema_of l.schema) l.fn.consumer l.consumer (g.D.ShapeDeserializer.at_hand l.fn.reader) (g.D.ShapeDeserializer.at_hand l.reader)

abbrev pub decreases-read_elements-loop-consumer : goal.decreases-read_elements-loop-consumer
decreases-read_elements-loop-consumer g l = still_left group.List (schema_of l.schema) (g.D.ShapeDeserializer.at_hand l.reader)

abbrev pub invariant-read_entries-loop-key : goal.invariant-read_entries-loop-key
invariant-read_entries-loop-key g l =
    Walking (at_entries TakesEntry) (Same map_nodes) group.Map (schema_of l.schema) l.fn.consumer l.consumer (g.D.ShapeDeserializer.at_hand l.fn.reader) (g.D.ShapeDeserializer.at_hand l.reader)

abbrev pub decreases-read_entries-loop-key : goal.decreases-read_entries-loop-key
decreases-read_entries-loop-key g l = still_left group.Map (schema_of l.schema) (g.D.ShapeDeserializer.at_hand l.reader)

abbrev pub invariant-read_members-loop-member : goal.invariant-read_members-loop-member
invariant-read_members-loop-member g l =
    Walking (at_members TakesMember) (Same struct_table) group.Structure (schema_of l.schema) l.fn.consumer l.consumer (g.D.ShapeDeserializer.at_hand l.fn.reader) (g.D.ShapeDeserializer.at_hand l.reader)

abbrev pub decreases-read_members-loop-member : goal.decreases-read_members-loop-member
decreases-read_members-loop-member g l = still_left group.Structure (schema_of l.schema) (g.D.ShapeDeserializer.at_hand l.reader)
