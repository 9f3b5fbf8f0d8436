-- The text of a value that follows its node is read as the value's normal form.
use Rattle.smithy_wire.proofs.Common.{◌≡◌, ap, ◌∙◌, ◌≤◌, Some, option_map, Ok, IsTrue, and_from}
use Rattle.smithy_types.specs.Documents.{Document, is_canonical, nesting}
use Rattle.smithy_schema.specs.Nodes.{Schema, shape}
use Rattle.smithy_serde.specs.DocumentOf.{document_of}
use Rattle.smithy_serde.specs.Held as held
use Rattle.smithy_serde.specs.Lawful.{max_nesting}
use Rattle.smithy_serde.specs.Ranges.{is_document_in_range}
use Rattle.smithy_serde.specs.ValueRead.{value_of_structure, value_read}
use Rattle.smithy_serde.specs.Values.{Value, structure}
use Rattle.smithy_document.specs.ReadsBack.{Follows}
use Rattle.smithy_document.proofs.ShapedCanonical.{canonical_document}
use Rattle.smithy_document.proofs.ShapedReads.{reads_normal_form, reads_normal_structure}
use Rattle.smithy_wire.specs.Forms.{Form}
use Rattle.smithy_wire.specs.Laws.{ReadsNormalForm, ReadsNormalStructure}
use Rattle.smithy_wire.specs.Standing.{Stand}
use Rattle.smithy_wire.specs.WireText.{wire_held, wire_text}
use Rattle.smithy_wire.specs.declared.wire_style.WireStyle.{WireStyle}
use Rattle.smithy_wire.proofs.TextLaws.{wire_is_lawful}

-- a reader over the text has the value's document at hand
holds : (style : WireStyle) (f : Form) (n : Schema) (v : Value) (d : Document) → Stand style.json_names f → Follows n v → document_of v ≡ Ok d → IsTrue (is_document_in_range d) → nesting d ≤ max_nesting
    → wire_held style f (wire_text style.json_names f d) ≡ Some (held.document d)
holds style f n v d stand follow told range low =
    (wire_is_lawful style f stand).reads_back d (and_from (is_canonical d) (is_document_in_range d) (canonical_document n v d follow told) range) low

pub reads_value : ReadsNormalForm
reads_value style f n v d stand stands follow told range low =
    ap (option_map (value_read n)) (holds style f n v d stand follow told range low) ∙ ap (λ r. Some r) (reads_normal_form n v d stands follow told)

pub reads_structure : ReadsNormalStructure
reads_structure style f n ws d stand stands follow told range low =
    ap (option_map (value_of_structure value_read (shape n))) (holds style f n (structure ws) d stand follow told range low)
    ∙ ap (λ r. Some r) (reads_normal_structure n ws d stands follow told)
