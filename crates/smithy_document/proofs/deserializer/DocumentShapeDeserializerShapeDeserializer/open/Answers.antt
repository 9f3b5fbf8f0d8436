use Rattle.std.specs.Prelude.{true}
use Rattle.smithy_document.proofs.Common.{is_none, view, schema_of}
use Rattle.smithy_document.proofs.HandLemmas.{left_alike, plain_alike}
use Rattle.smithy_document.proofs.deserializer.DocumentShapeDeserializerShapeDeserializer.open.Goals as goal

pub returns-clause-opens : goal.returns-clause-opens
returns-clause-opens g c = c.open.ensures.opens (is_none c.args.self.now.settings) (schema_of c.args._schema)

pub returns-clause-plainly : goal.returns-clause-plainly
returns-clause-plainly g c = c.open.ensures.opens true (schema_of c.args._schema)

pub returns-clause-left : goal.returns-clause-left
returns-clause-left g c = left_alike c.open.result (λ kept. plain_alike (view c.args.self.now.root.now) c.args.self.now.cursor c.open.new.self kept) c.open.ensures.kept
