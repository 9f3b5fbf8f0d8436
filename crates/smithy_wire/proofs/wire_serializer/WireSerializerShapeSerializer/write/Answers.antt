use Rattle.smithy_document.specs.views.Standing.{document_seen}
use Rattle.smithy_serde.specs.Steps.{adds}
use Rattle.smithy_serde.specs.Writing.{label, scalar_of}
use Rattle.smithy_wire.specs.WireText.{wire_text}
use Rattle.smithy_wire.specs.views.WireOf.{form_in, names_in}
use Rattle.smithy_wire.proofs.FinishedTexts.{calls_with}
use Rattle.smithy_wire.proofs.wire_serializer.WireSerializerShapeSerializer.write.Goals as goal

pub returns : goal.returns
returns c =
    let s = c.args.self.now in
    calls_with (adds (label c.args.schema) (scalar_of c.args.scalar)) (document_seen s.told) (document_seen c.write.new.self) (wire_text (names_in s.wire) (form_in s.wire)) c.write.result c.write.ensures
