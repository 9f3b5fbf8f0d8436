use Rattle.smithy_document.proofs.JsonHandLemmas.{json_answered}
use Rattle.smithy_document.proofs.json_deserializer.JsonDeserializerShapeDeserializer.settle.Goals as goal

pub returns : goal.returns
returns c = json_answered c.args.self.now.tree c.args.self.now.cursor c.args.refusal
