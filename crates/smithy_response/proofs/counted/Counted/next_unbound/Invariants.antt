use Rattle.smithy_response.proofs.Common.{schema_of}
use Rattle.smithy_serde.specs.declared.scalar.Group.TheVariants as group
use Rattle.smithy_serde.proofs.ReadWalk.{still_left}
use Rattle.smithy_response.proofs.Copies.{Skimmed}
use Rattle.smithy_response.proofs.counted.Counted.next_unbound.Given as goal

abbrev pub invariant-loop-member : goal.invariant-loop-member
invariant-loop-member g l = Skimmed (schema_of l.schema) (g.D.ShapeDeserializer.at_hand l.fn.self.reader) (g.D.ShapeDeserializer.at_hand l.self.reader)

abbrev pub decreases-loop-member : goal.decreases-loop-member
decreases-loop-member g l = still_left group.Structure (schema_of l.schema) (g.D.ShapeDeserializer.at_hand l.self.reader)
