use Rattle.smithy_schema.specs.References.{schema_of}
use Rattle.smithy_serde.specs.declared.scalar.Group.TheVariants as group
use Rattle.smithy_serde.specs.views.Handing.{at_entries}
use Rattle.smithy_serde.proofs.ReadWalk.{Walking, still_left}
use Rattle.smithy_serde.proofs.consumers.read_map.Given as goal

abbrev pub invariant-loop-key : goal.invariant-loop-key
invariant-loop-key g l =
    Walking (at_entries g.E.EntryConsumer.takes) g.E.EntryConsumer.keeps group.Map (schema_of l.schema) l.fn.consumer l.consumer
    (g.D.ShapeDeserializer.at_hand l.fn.reader) (g.D.ShapeDeserializer.at_hand l.reader)

abbrev pub decreases-loop-key : goal.decreases-loop-key
decreases-loop-key g l = still_left group.Map (schema_of l.schema) (g.D.ShapeDeserializer.at_hand l.reader)
