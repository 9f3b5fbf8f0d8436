use Rattle.smithy_document.proofs.Common.{Ok, NextElement}
use Rattle.smithy_document.proofs.JsonHandLemmas.{over}
use Rattle.smithy_document.proofs.json_deserializer.JsonDeserializerShapeDeserializer.next_element.Goals as goal

pub returns : goal.returns
returns c = over (λ old new. NextElement old new (Ok c.next_element.result)) c.args.self.now.tree c.in-Ok.tree c.args.self.now.cursor c.next_element.new.self c.in-Ok.is c.next_element.ensures
