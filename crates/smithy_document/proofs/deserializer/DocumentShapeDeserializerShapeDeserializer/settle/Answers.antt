use Rattle.smithy_document.proofs.Common.{is_none, view, document_in, opened_in}
use Rattle.smithy_document.proofs.HandLemmas.{answered}
use Rattle.smithy_document.proofs.deserializer.DocumentShapeDeserializerShapeDeserializer.settle.Goals as goal

pub returns-clause-settles : goal.returns-clause-settles
returns-clause-settles g c =
    let r = c.args.self.now in
    answered (is_none r.settings) (document_in (view r.root.now) r.cursor) (opened_in (view r.root.now) r.cursor) c.args.refusal
