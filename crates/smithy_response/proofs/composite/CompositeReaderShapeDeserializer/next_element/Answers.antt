use Rattle.smithy_response.proofs.Common.{◌∙◌}
use Rattle.smithy_serde.specs.declared.scalar.Group.TheVariants as group
use Rattle.smithy_response.proofs.Presenting.{shown_element}
use Rattle.smithy_response.proofs.StageSteps.{top_steps, bound_steps, payload_steps, body_steps}
use Rattle.smithy_response.proofs.composite.CompositeReaderShapeDeserializer.next_element.Goals as goal

pub returns-in-Top-clause-told : goal.returns-in-Top-clause-told
returns-in-Top-clause-told g c =
    rw c.in-Top.is (shown_element (top_steps c.args.self.now.transport (g.D.ShapeDeserializer.at_hand c.args.self.now.body.reader) (g.D.ShapeDeserializer.at_hand c.next_element.new.self.reader) group.List (rw c.in-Top.is at c.requires)) c.next_element.result c.next_element.ensures)

pub returns-in-Bound-clause-told : goal.returns-in-Bound-clause-told
returns-in-Bound-clause-told g c =
    rw c.in-Bound.is (shown_element (bound_steps c.args.self.now.transport c.next_element-in-Bound.new.self c.in-Bound.is_given (g.D.ShapeDeserializer.at_hand c.args.self.now.body.reader) c.next_element-in-Bound.ensures.same group.List (rw c.in-Bound.is at c.requires) (λ e. cc)) c.next_element-in-Bound.result c.next_element-in-Bound.ensures.next)

pub returns-in-Payload-clause-told : goal.returns-in-Payload-clause-told
returns-in-Payload-clause-told g c =
    rw c.in-Payload.is (shown_element (payload_steps c.args.self.now.transport (g.D.ShapeDeserializer.at_hand c.args.self.now.body.reader) (g.D.ShapeDeserializer.at_hand c.next_element-in-Payload.new.self.reader) group.List (rw c.in-Payload.is at c.requires) (λ e. cc)) c.next_element-in-Payload.result c.next_element-in-Payload.ensures)

pub returns-else-depth-eq1-clause-told : goal.returns-else-depth-eq1-clause-told
returns-else-depth-eq1-clause-told g c =
    rw c.in-Body.is (shown_element (body_steps c.args.self.now.transport (g.D.ShapeDeserializer.at_hand c.args.self.now.body.reader) (g.D.ShapeDeserializer.at_hand c.next_element-in-Body.new.self.reader) group.List (rw c.in-Body.is at c.requires) (λ e. c.if-depth-eq1.false (c.depth.ensures.opened ∙ e))) c.next_element-in-Body.result c.next_element-in-Body.ensures)
