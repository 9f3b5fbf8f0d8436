use Rattle.smithy_document.proofs.Common.{schema_of, OpensAt, NotOpened}
use Rattle.smithy_document.proofs.HandLemmas.{left_alike, refused_open}
use Rattle.smithy_document.proofs.JsonHandLemmas.{hand_alike, over, over_none}
use Rattle.smithy_document.proofs.json_deserializer.JsonDeserializerShapeDeserializer.open.Goals as goal

pub returns-in-Ok-clause-opens : goal.returns-in-Ok-clause-opens
returns-in-Ok-clause-opens c = over (λ old new. OpensAt c.args.group (schema_of c.args._schema) old new c.open.result) c.args.self.now.tree c.in-Ok.tree c.args.self.now.cursor c.open.new.self c.in-Ok.is (c.open.ensures.opens (schema_of c.args._schema))

pub returns-in-Err-clause-opens : goal.returns-in-Err-clause-opens
returns-in-Err-clause-opens c = over_none (λ old new. NotOpened c.args.group (schema_of c.args._schema) old new c.refused.result) c.args.self.now.tree c.in-Err.text c.args.self.now.cursor c.args.self.now.cursor c.in-Err.is (refused_open c.args.group (schema_of c.args._schema) c.in-Err.text c.refused.result c.refused.ensures)

pub returns-in-Ok-clause-left : goal.returns-in-Ok-clause-left
returns-in-Ok-clause-left c = left_alike c.open.result (λ kept. hand_alike c.args.self.now.tree c.args.self.now.cursor c.open.new.self kept) c.open.ensures.kept
