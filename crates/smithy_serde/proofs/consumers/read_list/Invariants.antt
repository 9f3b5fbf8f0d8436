use Rattle.smithy_schema.specs.References.{schema_of}
use Rattle.smithy_serde.specs.declared.scalar.Group.TheVariants as group
use Rattle.smithy_serde.specs.views.Handing.{at_elements}
use Rattle.smithy_serde.proofs.ReadWalk.{Walking, still_left}
use Rattle.smithy_serde.proofs.consumers.read_list.Given as goal

abbrev pub invariant-loop-consumer : goal.invariant-loop-consumer
invariant-loop-consumer g l =
    Walking (at_elements g.E.ElementConsumer.takes) g.E.ElementConsumer.keeps group.List (schema_of l.schema) l.fn.consumer l.consumer
    (g.D.ShapeDeserializer.at_hand l.fn.reader) (g.D.ShapeDeserializer.at_hand l.reader)

abbrev pub decreases-loop-consumer : goal.decreases-loop-consumer
decreases-loop-consumer g l = still_left group.List (schema_of l.schema) (g.D.ShapeDeserializer.at_hand l.reader)
