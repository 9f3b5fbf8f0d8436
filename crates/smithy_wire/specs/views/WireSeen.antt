-- What is seen of a serializer of the JSON of a node.
use Rattle.smithy_document.specs.views.Standing.{document_seen}
use Rattle.smithy_serde.specs.Writing.{Seen}
use Rattle.smithy_wire.specs.WireText.{wire_text}
use Rattle.smithy_wire.specs.declared.wire_serializer.WireSerializer.{WireSerializer}
use Rattle.smithy_wire.specs.views.WireOf.{form_in, names_in}

-- that of the document that it is told, with the text of the node
abbrev pub wire_seen : WireSerializer → Seen
wire_seen s = record (document_seen s.told) { text = wire_text (names_in s.wire) (form_in s.wire) }
