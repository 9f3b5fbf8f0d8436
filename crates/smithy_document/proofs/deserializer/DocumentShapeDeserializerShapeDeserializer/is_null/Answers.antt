use Rattle.smithy_document.proofs.Common.{ap, ◌∙◌, is_none, is_null_document}
use Rattle.smithy_document.proofs.HandLemmas.{null_told}
use Rattle.smithy_document.proofs.deserializer.DocumentShapeDeserializerShapeDeserializer.is_null.Goals as goal

pub returns-clause-told : goal.returns-clause-told
returns-clause-told g c = null_told (is_none c.args.self.now.settings) _ c.is_null.result (c.is_null.ensures ∙ ap is_null_document c.document.ensures)

pub returns-clause-plainly : goal.returns-clause-plainly
returns-clause-plainly g c = c.is_null.ensures ∙ ap is_null_document c.document.ensures
