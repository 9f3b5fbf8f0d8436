use Rattle.smithy_schema.specs.References.{schema_of}
use Rattle.smithy_serde.specs.declared.scalar.Group.TheVariants as group
use Rattle.smithy_serde.proofs.ReadTexts.{ReadingTexts}
use Rattle.smithy_serde.proofs.ReadWalk.{still_left}
use Rattle.smithy_serde.proofs.deserializer.ShapeDeserializer.read_string_string_map.Given as goal

abbrev pub invariant-loop-items : goal.invariant-loop-items
invariant-loop-items g l =
    let m = g.Self.ShapeDeserializer in
    ReadingTexts (schema_of l.schema) l.items (m.at_hand l.fn.self) (m.at_hand l.self)

abbrev pub decreases-loop-items : goal.decreases-loop-items
decreases-loop-items g l = still_left group.Map (schema_of l.schema) (g.Self.ShapeDeserializer.at_hand l.self)
