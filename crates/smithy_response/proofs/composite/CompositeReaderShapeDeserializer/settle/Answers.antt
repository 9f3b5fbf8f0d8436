use Rattle.smithy_response.proofs.Settles.{answered_top, answered_payload, answered_body, answered_bound, hidden_bound}
use Rattle.smithy_response.proofs.composite.CompositeReaderShapeDeserializer.settle.Goals as goal

pub returns-in-Top-clause-told : goal.returns-in-Top-clause-told
returns-in-Top-clause-told g c = rw c.in-Top.is (answered_top c.args.self.now.transport (g.D.ShapeDeserializer.at_hand c.args.self.now.body.reader) c.args.refusal)

pub returns-in-Payload-clause-told : goal.returns-in-Payload-clause-told
returns-in-Payload-clause-told g c = rw c.in-Payload.is (answered_payload c.args.self.now.transport (g.D.ShapeDeserializer.at_hand c.args.self.now.body.reader) c.args.refusal)

pub returns-in-Body-clause-told : goal.returns-in-Body-clause-told
returns-in-Body-clause-told g c = rw c.in-Body.is (answered_body c.args.self.now.transport (g.D.ShapeDeserializer.at_hand c.args.self.now.body.reader) c.args.refusal)

pub returns-in-Ok-clause-told : goal.returns-in-Ok-clause-told
returns-in-Ok-clause-told g c = rw c.in-Bound.is (hidden_bound c.args.self.now.transport c.in-Bound.is_given (g.D.ShapeDeserializer.at_hand c.args.self.now.body.reader) c.args.refusal c.close.new.self c.close.ensures.same c.close.ensures.closed c.in-Ok.ensures)

pub returns-in-Err-clause-told : goal.returns-in-Err-clause-told
returns-in-Err-clause-told g c = rw c.in-Bound.is (answered_bound c.args.self.now.transport c.in-Bound.is_given (g.D.ShapeDeserializer.at_hand c.args.self.now.body.reader) c.args.refusal _ c.in-Err.ensures)
