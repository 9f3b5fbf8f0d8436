-- A document that is read back by a node (Smithy, data model).
use Rattle.std.specs.Prelude.{◌≡◌, ℕ, Some, Result, Ok}
use Rattle.smithy_types.specs.Documents.{Document}
use Rattle.smithy_schema.specs.Nodes.{Table, Schema, at_place}
use Rattle.smithy_serde.specs.Values.{Value}
use Rattle.smithy_serde.specs.DocumentOf.{document_of}
use Rattle.smithy_serde.specs.ReadCalls.{Gives}
use Rattle.smithy_serde.specs.StoredValues.{value_in}
use Rattle.smithy_serde.specs.declared.error.SerdeError.{SerdeError}
use Rattle.smithy_serde.specs.declared.value.ShapeValue.{ShapeValue}
use Rattle.smithy_document.specs.ReadsBack.{Follows, normal_form}

-- each value that follows the node at the place and has the document is read as its normal form
abbrev pub ReadsBackAt : Table → ℕ → Document → Result ShapeValue SerdeError → Type 0
ReadsBackAt table place document result =
    (n : Schema) (v : Value) → at_place table place ≡ Some n → Follows n v → document_of v ≡ Ok document →
    Gives (value_in table) (Some (Ok (normal_form n v))) result
