use Rattle.smithy_response.proofs.Common.{◌∙◌, sym, schema_of}
use Rattle.smithy_serde.specs.declared.scalar.Group.TheVariants as group
use Rattle.smithy_response.proofs.Presenting.{shown_opening}
use Rattle.smithy_response.proofs.StageSteps.{top_openings, none_listed, not_structure, bound_openings, payload_openings, body_openings}
use Rattle.smithy_response.proofs.Settles.{opens_top}
use Rattle.smithy_response.proofs.Turns.{none_left_open}
use Rattle.smithy_response.proofs.composite.CompositeReaderShapeDeserializer.open.Goals as goal

pub returns-then-depth-ne0-clause-told : goal.returns-then-depth-ne0-clause-told
returns-then-depth-ne0-clause-told g c =
    rw c.in-Top.is (shown_opening (top_openings c.args.self.now.transport (g.D.ShapeDeserializer.at_hand c.args.self.now.body.reader) (g.D.ShapeDeserializer.at_hand c.open.new.self.reader) c.args.group (schema_of c.args.schema) (none_listed c.args.self.now.transport _ _ c.args.group (schema_of c.args.schema) (λ e. c.if-depth-ne0.true (c.depth.ensures.opened ∙ e)))) c.open.result c.open.ensures.open)

pub returns-in-Structure-clause-told : goal.returns-in-Structure-clause-told
returns-in-Structure-clause-told g c =
    rw (c.in-Top.is, c.in-Structure.is) (opens_top (schema_of c.args.schema) c.args.self.now.transport c.start.new.self c.start.ensures.same c.start.ensures.place (g.D.ShapeDeserializer.at_hand c.args.self.now.body.reader) (none_left_open _ (sym c.depth.ensures.opened ∙ c.if-depth-ne0.false)) c.start.ensures.closed)

pub returns-in-List-clause-told : goal.returns-in-List-clause-told
returns-in-List-clause-told g c =
    rw (c.in-Top.is, c.in-List.is) (shown_opening (top_openings c.args.self.now.transport (g.D.ShapeDeserializer.at_hand c.args.self.now.body.reader) (g.D.ShapeDeserializer.at_hand c.open-in-List.new.self.reader) group.List (schema_of c.args.schema) (not_structure c.args.self.now.transport _ _ group.List (schema_of c.args.schema) (λ e. cc))) c.open-in-List.result (rw c.in-List.is at c.open-in-List.ensures.open))

pub returns-in-Map-clause-told : goal.returns-in-Map-clause-told
returns-in-Map-clause-told g c =
    rw (c.in-Top.is, c.in-Map.is) (shown_opening (top_openings c.args.self.now.transport (g.D.ShapeDeserializer.at_hand c.args.self.now.body.reader) (g.D.ShapeDeserializer.at_hand c.open-in-Map.new.self.reader) group.Map (schema_of c.args.schema) (not_structure c.args.self.now.transport _ _ group.Map (schema_of c.args.schema) (λ e. cc))) c.open-in-Map.result (rw c.in-Map.is at c.open-in-Map.ensures.open))

pub returns-in-Bound-clause-told : goal.returns-in-Bound-clause-told
returns-in-Bound-clause-told g c =
    rw c.in-Bound.is (shown_opening (bound_openings c.args.self.now.transport c.open-in-Bound.new.self c.in-Bound.is_given (g.D.ShapeDeserializer.at_hand c.args.self.now.body.reader) c.open-in-Bound.ensures.same c.args.group (schema_of c.args.schema)) c.open-in-Bound.result c.open-in-Bound.ensures.opens)

pub returns-in-Payload-clause-told : goal.returns-in-Payload-clause-told
returns-in-Payload-clause-told g c =
    rw c.in-Payload.is (shown_opening (payload_openings c.args.self.now.transport (g.D.ShapeDeserializer.at_hand c.args.self.now.body.reader) (g.D.ShapeDeserializer.at_hand c.open-in-Payload.new.self.reader) c.args.group (schema_of c.args.schema)) c.open-in-Payload.result c.open-in-Payload.ensures.open)

pub returns-else-depth-eq0-clause-told : goal.returns-else-depth-eq0-clause-told
returns-else-depth-eq0-clause-told g c =
    rw c.in-Body.is (shown_opening (body_openings c.args.self.now.transport (g.D.ShapeDeserializer.at_hand c.args.self.now.body.reader) (g.D.ShapeDeserializer.at_hand c.open-in-Body.new.self.reader) c.args.group (schema_of c.args.schema) (λ e. c.if-depth-eq0.false (c.depth-in-Body.ensures.opened ∙ e))) c.open-in-Body.result c.open-in-Body.ensures.open)
