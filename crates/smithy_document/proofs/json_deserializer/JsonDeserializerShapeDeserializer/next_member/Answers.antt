use Rattle.smithy_document.proofs.Common.{Ok, schema_of, NextMember}
use Rattle.smithy_document.proofs.JsonHandLemmas.{over}
use Rattle.smithy_document.proofs.json_deserializer.JsonDeserializerShapeDeserializer.next_member.Goals as goal

pub returns : goal.returns
returns c = over (λ old new. NextMember (schema_of c.args.schema) old new (Ok c.next_member.result)) c.args.self.now.tree c.in-Ok.tree c.args.self.now.cursor c.next_member.new.self c.in-Ok.is c.next_member.ensures
