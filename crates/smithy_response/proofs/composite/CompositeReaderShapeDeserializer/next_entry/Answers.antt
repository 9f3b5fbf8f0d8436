use Rattle.smithy_response.proofs.Common.{◌∙◌}
use Rattle.smithy_serde.specs.declared.scalar.Group.TheVariants as group
use Rattle.smithy_response.proofs.Presenting.{shown_entry}
use Rattle.smithy_response.proofs.StageSteps.{top_steps, bound_steps, payload_steps, body_steps}
use Rattle.smithy_response.proofs.composite.CompositeReaderShapeDeserializer.next_entry.Goals as goal

pub returns-in-Top-clause-told : goal.returns-in-Top-clause-told
returns-in-Top-clause-told g c =
    rw c.in-Top.is (shown_entry (top_steps c.args.self.now.transport (g.D.ShapeDeserializer.at_hand c.args.self.now.body.reader) (g.D.ShapeDeserializer.at_hand c.next_entry.new.self.reader) group.Map (rw c.in-Top.is at c.requires)) c.next_entry.result c.next_entry.ensures)

pub returns-in-Bound-clause-told : goal.returns-in-Bound-clause-told
returns-in-Bound-clause-told g c =
    rw c.in-Bound.is (shown_entry (bound_steps c.args.self.now.transport c.next_entry-in-Bound.new.self c.in-Bound.is_given (g.D.ShapeDeserializer.at_hand c.args.self.now.body.reader) c.next_entry-in-Bound.ensures.same group.Map (rw c.in-Bound.is at c.requires) (λ e. cc)) c.next_entry-in-Bound.result c.next_entry-in-Bound.ensures.next)

pub returns-in-Payload-clause-told : goal.returns-in-Payload-clause-told
returns-in-Payload-clause-told g c =
    rw c.in-Payload.is (shown_entry (payload_steps c.args.self.now.transport (g.D.ShapeDeserializer.at_hand c.args.self.now.body.reader) (g.D.ShapeDeserializer.at_hand c.next_entry-in-Payload.new.self.reader) group.Map (rw c.in-Payload.is at c.requires) (λ e. cc)) c.next_entry-in-Payload.result c.next_entry-in-Payload.ensures)

pub returns-else-depth-eq1-clause-told : goal.returns-else-depth-eq1-clause-told
returns-else-depth-eq1-clause-told g c =
    rw c.in-Body.is (shown_entry (body_steps c.args.self.now.transport (g.D.ShapeDeserializer.at_hand c.args.self.now.body.reader) (g.D.ShapeDeserializer.at_hand c.next_entry-in-Body.new.self.reader) group.Map (rw c.in-Body.is at c.requires) (λ e. c.if-depth-eq1.false (c.depth.ensures.opened ∙ e))) c.next_entry-in-Body.result c.next_entry-in-Body.ensures)
