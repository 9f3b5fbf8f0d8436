use Rattle.smithy_response.proofs.Common.{sym, ◌∙◌, err_from_is_err_and, schema_of}
use Rattle.smithy_response.proofs.Turns.{turns_member, turns_payload, turns_out, turns_refused, turns_body, turns_unopened, empty_given, empty_unread, none_left_open, one_opened}
use Rattle.smithy_response.proofs.composite.CompositeReader.next_bound.Goals as goal

pub returns-in_err-member : goal.returns-in_err-member
returns-in_err-member g c =
    let p = err_from_is_err_and c.from_residual.result c.from_residual.ensures.1 in
    rw (p.1, p.2, c.requires) (turns_refused (schema_of c.args.schema) c.args.self.now.transport c.next.new.self c.next.ensures.same c.args.is_given (g.D.ShapeDeserializer.at_hand c.args.self.now.body.reader) _ c.next.ensures.closed c.in_err-member.ensures.turn)

pub returns-in-Member : goal.returns-in-Member
returns-in-Member g c =
    rw c.requires (turns_member (schema_of c.args.schema) c.args.self.now.transport c.next.new.self c.next.ensures.same c.args.is_given (g.D.ShapeDeserializer.at_hand c.args.self.now.body.reader) (schema_of c.in-Member.member) c.next.ensures.closed (rw c.in-Member.is at c.in_ok-member.ensures.turn))

pub returns-in-Payload : goal.returns-in-Payload
returns-in-Payload g c = turns_payload (schema_of c.args.schema) c.args.self.now.transport c.next.new.self c.next.ensures.same c.args.is_given (g.D.ShapeDeserializer.at_hand c.args.self.now.body.reader) (schema_of c.in-Payload.member) (none_left_open _ (sym c.depth.ensures.opened ∙ c.if-depth-ne0.false)) (rw c.in-Payload.is at c.in_ok-member.ensures.turn)

pub returns-then-is_given : goal.returns-then-is_given
returns-then-is_given g c =
    turns_out (schema_of c.args.schema) c.args.self.now.transport c.next.new.self c.next.ensures.same c.args.is_given (g.D.ShapeDeserializer.at_hand c.args.self.now.body.reader) (none_left_open _ (sym c.depth.ensures.opened ∙ c.if-depth-ne0.false)) (rw c.in-Done.is at c.in_ok-member.ensures.turn) (empty_given (schema_of c.args.schema) c.args.self.now.transport c.next.new.self c.next.ensures.same c.args.is_given (g.D.ShapeDeserializer.at_hand c.args.self.now.body.reader) c.if-is_given.true)

pub returns-then-not-reads_body : goal.returns-then-not-reads_body
returns-then-not-reads_body g c =
    turns_out (schema_of c.args.schema) c.args.self.now.transport c.next.new.self c.next.ensures.same c.args.is_given (g.D.ShapeDeserializer.at_hand c.args.self.now.body.reader) (none_left_open _ (sym c.depth.ensures.opened ∙ c.if-depth-ne0.false)) (rw c.in-Done.is at c.in_ok-member.ensures.turn) (empty_unread (schema_of c.args.schema) c.args.self.now.transport c.next.new.self c.next.ensures.same c.args.is_given (g.D.ShapeDeserializer.at_hand c.args.self.now.body.reader) (sym c.reads_body.ensures ∙ c.if-not-reads_body.true))

pub next_field-requires-clause-one : goal.next_field-requires-clause-one
next_field-requires-clause-one g c = one_opened (schema_of c.args.schema) (g.D.ShapeDeserializer.at_hand c.args.self.now.body.reader) (g.D.ShapeDeserializer.at_hand c.open.new.self.reader) (none_left_open _ (sym c.depth.ensures.opened ∙ c.if-depth-ne0.false)) c.in-Ok.ensures.open

pub returns-in-Ok : goal.returns-in-Ok
returns-in-Ok g c =
    turns_body (schema_of c.args.schema) c.args.self.now.transport c.next.new.self c.next.ensures.same c.args.is_given (g.D.ShapeDeserializer.at_hand c.args.self.now.body.reader) (rw c.in-Done.is at c.in_ok-member.ensures.turn) (sym c.reads_body.ensures ∙ c.if-not-reads_body.false) c.if-is_given.false (none_left_open _ (sym c.depth.ensures.opened ∙ c.if-depth-ne0.false)) (g.D.ShapeDeserializer.at_hand c.open.new.self.reader) c.in-Ok.ensures.open _ c.next_field.result c.next_field.ensures

pub returns-in-Err : goal.returns-in-Err
returns-in-Err g c =
    rw c.requires (turns_unopened (schema_of c.args.schema) c.args.self.now.transport c.next.new.self c.next.ensures.same c.args.is_given (g.D.ShapeDeserializer.at_hand c.args.self.now.body.reader) (rw c.in-Done.is at c.in_ok-member.ensures.turn) (sym c.reads_body.ensures ∙ c.if-not-reads_body.false) c.if-is_given.false c.next.ensures.closed _ (g.D.ShapeDeserializer.at_hand c.open.new.self.reader) c.in-Err.ensures.open)
