use Rattle.smithy_schema.specs.References.{schema_of}
use Rattle.smithy_serde.specs.declared.scalar.Group.TheVariants as group
use Rattle.smithy_serde.specs.views.Handing.{at_members}
use Rattle.smithy_serde.proofs.ReadWalk.{Walking, still_left}
use Rattle.smithy_serde.proofs.consumers.read_struct.Given as goal

abbrev pub invariant-loop-member : goal.invariant-loop-member
invariant-loop-member g l =
    Walking (at_members g.M.MemberConsumer.takes) g.M.MemberConsumer.keeps group.Structure (schema_of l.schema) l.fn.consumer l.consumer
    (g.D.ShapeDeserializer.at_hand l.fn.reader) (g.D.ShapeDeserializer.at_hand l.reader)

abbrev pub decreases-loop-member : goal.decreases-loop-member
decreases-loop-member g l = still_left group.Structure (schema_of l.schema) (g.D.ShapeDeserializer.at_hand l.reader)
