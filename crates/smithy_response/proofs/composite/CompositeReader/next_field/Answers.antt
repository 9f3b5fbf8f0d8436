use Rattle.smithy_response.proofs.Common.{schema_of}
use Rattle.smithy_response.proofs.Turns.{field_found, field_closed, field_halted}
use Rattle.smithy_response.proofs.composite.CompositeReader.next_field.Goals as goal

pub returns-in-Ok-Some : goal.returns-in-Ok-Some
returns-in-Ok-Some g c =
    rw c.requires.stage (field_found (schema_of c.args.schema) c.args.self.now.transport (g.D.ShapeDeserializer.at_hand c.args.self.now.body.reader) (g.D.ShapeDeserializer.at_hand c.next_unbound.new.self.reader) c.requires.one (schema_of c.in-Ok-Some.member) (rw c.in-Ok-Some.field-0-is at c.in-Ok-Some.ensures.unbound) (rw c.in-Ok-Some.field-0-is at c.in-Ok-Some.ensures.next))

pub returns-in-Ok-None : goal.returns-in-Ok-None
returns-in-Ok-None g c = field_closed (schema_of c.args.schema) c.args.self.now.transport (g.D.ShapeDeserializer.at_hand c.args.self.now.body.reader) (g.D.ShapeDeserializer.at_hand c.next_unbound.new.self.reader) c.requires.one (rw c.in-Ok-None.field-0-is at c.in-Ok-None.ensures.next)

pub returns-in-Err : goal.returns-in-Err
returns-in-Err g c = rw c.requires.stage (field_halted (schema_of c.args.schema) c.args.self.now.transport (g.D.ShapeDeserializer.at_hand c.args.self.now.body.reader) (g.D.ShapeDeserializer.at_hand c.next_unbound.new.self.reader) c.requires.one _ c.in-Err.ensures.next)
