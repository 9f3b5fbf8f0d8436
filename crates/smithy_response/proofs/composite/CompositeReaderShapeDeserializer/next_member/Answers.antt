use Rattle.smithy_response.proofs.Common.{◌∙◌, schema_of}
use Rattle.smithy_serde.specs.declared.scalar.Group.TheVariants as group
use Rattle.smithy_response.proofs.Presenting.{shown_member}
use Rattle.smithy_response.proofs.StageSteps.{top_steps, payload_steps, body_steps}
use Rattle.smithy_response.proofs.Turns.{from_bound}
use Rattle.smithy_response.proofs.composite.CompositeReaderShapeDeserializer.next_member.Goals as goal

pub returns-in-Top-clause-told : goal.returns-in-Top-clause-told
returns-in-Top-clause-told g c =
    rw c.in-Top.is (shown_member (top_steps c.args.self.now.transport (g.D.ShapeDeserializer.at_hand c.args.self.now.body.reader) (g.D.ShapeDeserializer.at_hand c.next_member.new.self.reader) group.Structure (rw c.in-Top.is at c.requires)) (schema_of c.args.schema) c.next_member.result c.next_member.ensures)

pub returns-in-Bound-clause-told : goal.returns-in-Bound-clause-told
returns-in-Bound-clause-told g c =
    rw c.in-Bound.is (from_bound c.args.self.now.transport c.in-Bound.is_given (g.D.ShapeDeserializer.at_hand c.args.self.now.body.reader) (schema_of c.args.schema) _ c.next_bound.result (rw c.in-Bound.is at c.requires) c.next_bound.ensures)

pub returns-then-depth-ne0-clause-told : goal.returns-then-depth-ne0-clause-told
returns-then-depth-ne0-clause-told g c =
    rw c.in-Payload.is (shown_member (payload_steps c.args.self.now.transport (g.D.ShapeDeserializer.at_hand c.args.self.now.body.reader) (g.D.ShapeDeserializer.at_hand c.next_member-then-depth-ne0.new.self.reader) group.Structure (rw c.in-Payload.is at c.requires) (λ s e. c.if-depth-ne0.true (c.depth.ensures.opened ∙ e))) (schema_of c.args.schema) c.next_member-then-depth-ne0.result c.next_member-then-depth-ne0.ensures)

pub returns-then-depth-ne1-clause-told : goal.returns-then-depth-ne1-clause-told
returns-then-depth-ne1-clause-told g c =
    rw c.in-Body.is (shown_member (body_steps c.args.self.now.transport (g.D.ShapeDeserializer.at_hand c.args.self.now.body.reader) (g.D.ShapeDeserializer.at_hand c.next_member-then-depth-ne1.new.self.reader) group.Structure (rw c.in-Body.is at c.requires) (λ e. c.if-depth-ne1.true (c.depth-in-Body.ensures.opened ∙ e))) (schema_of c.args.schema) c.next_member-then-depth-ne1.result c.next_member-then-depth-ne1.ensures)
