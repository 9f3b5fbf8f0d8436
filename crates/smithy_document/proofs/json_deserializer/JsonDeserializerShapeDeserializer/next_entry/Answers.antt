use Rattle.smithy_document.proofs.Common.{NextEntry}
use Rattle.smithy_document.proofs.JsonHandLemmas.{over}
use Rattle.smithy_document.proofs.json_deserializer.JsonDeserializerShapeDeserializer.next_entry.Goals as goal

pub returns : goal.returns
returns c = over (λ old new. NextEntry old new c.next_entry.result) c.args.self.now.tree c.in-Ok.tree c.args.self.now.cursor c.next_entry.new.self c.in-Ok.is c.next_entry.ensures
