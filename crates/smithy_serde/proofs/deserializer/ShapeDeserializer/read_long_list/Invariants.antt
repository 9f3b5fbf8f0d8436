use Rattle.smithy_schema.specs.References.{schema_of}
use Rattle.smithy_serde.specs.Values.{whole, long}
use Rattle.smithy_serde.specs.declared.scalar.Group.TheVariants as group
use Rattle.smithy_serde.specs.declared.read_scalar.ScalarKind.TheVariants as of
use Rattle.smithy_serde.proofs.ReadLists.{ReadingEach}
use Rattle.smithy_serde.proofs.ReadWalk.{still_left}
use Rattle.smithy_serde.proofs.deserializer.ShapeDeserializer.read_long_list.Given as goal

abbrev pub invariant-loop-items : goal.invariant-loop-items
invariant-loop-items g l =
    let m = g.Self.ShapeDeserializer in
    ReadingEach (whole long) of.Long (schema_of l.schema) l.items (m.at_hand l.fn.self) (m.at_hand l.self)

abbrev pub decreases-loop-items : goal.decreases-loop-items
decreases-loop-items g l = still_left group.List (schema_of l.schema) (g.Self.ShapeDeserializer.at_hand l.self)
