-- A structure that is read back from its document.
use Rattle.std.specs.Prelude.{◌≡◌, Some, Ok, Result}
use Rattle.smithy_types.specs.Documents.{Document}
use Rattle.smithy_schema.specs.Nodes.{Schema}
use Rattle.smithy_serde.specs.DocumentOf.{document_of}
use Rattle.smithy_serde.specs.Values.{Writes, structure}
use Rattle.smithy_serde.specs.ReadCalls.{Gives}
use Rattle.smithy_serde.specs.ValueReading.{reader_node, structure_of}
use Rattle.smithy_serde.specs.declared.builders.ValueReader.{ValueReader}
use Rattle.smithy_serde.specs.declared.error.SerdeError.{SerdeError}
use Rattle.smithy_serde.specs.declared.struct_value.StructValue.{StructValue}
use Rattle.smithy_document.specs.ReadsBack.{Stands, Follows, normal_form}

-- writes that follow the reader's node come back in their normal form, want of memory aside
abbrev pub ComesBack : ValueReader → Writes → Result StructValue SerdeError → Type 0
ComesBack reader ws result =
    (n : Schema) → reader_node reader ≡ Some n → Stands n → Follows n (structure ws) → Gives structure_of (Some (Ok (normal_form n (structure ws)))) result

-- the same of a document
abbrev pub ComesBackFrom : ValueReader → Document → Result StructValue SerdeError → Type 0
ComesBackFrom reader d result = (ws : Writes) → document_of (structure ws) ≡ Ok d → ComesBack reader ws result
