-- What the text of a document by a node keeps, and which values it is written of.
use Rattle.std.specs.Prelude.{◌≡◌, ◌↔◌, ℕ, ◌≤◌, Bool, IsTrue, List, Some, None, option_map, Result, Ok}
use Rattle.smithy_ids.specs.Kinds.{is_structure_or_union}
use Rattle.smithy_document.specs.ReadsBack.{Follows, Stands, normal_form}
use Rattle.smithy_types.specs.Documents.{nesting}
use Rattle.smithy_serde.specs.DocumentOf.{document_of}
use Rattle.smithy_serde.specs.Lawful.{IsLawfulText, TellsApart, is_sound, max_nesting}
use Rattle.smithy_serde.specs.Ranges.{is_document_in_range}
use Rattle.smithy_serde.specs.ValueRead.{value_of_structure, value_read}
use Rattle.smithy_serde.specs.Values.{Value, Writes, structure}
use Rattle.smithy_wire.specs.Words.{Schema, SerdeError, Document, shape}
use Rattle.smithy_wire.specs.declared.side.Side.{Side}
use Rattle.smithy_wire.specs.declared.wire_style.WireStyle.{WireStyle}
use Rattle.std.specs.Prelude.{Option}
use Rattle.smithy_wire.specs.WireNames.{names_stand, swapped}
use Rattle.smithy_wire.specs.Forms.{Form, fields, form_of}
use Rattle.smithy_wire.specs.Follows.{body_follows, fields_follow, follows}
use Rattle.smithy_wire.specs.Misfits.{body_misfit_told, misfit, whole_misfit_told}
use Rattle.smithy_wire.specs.Said.{fields_said, object_json, said}
use Rattle.smithy_wire.specs.Standing.{Stand}
use Rattle.smithy_wire.specs.Wire.{wire}
use Rattle.smithy_wire.specs.Unwire.{unwire}
use Rattle.smithy_wire.specs.WireText.{wire_text, wire_held}

-- two swaps of a name give it back
abbrev pub UndoesItself : Type 0
UndoesItself = (side : Option Side) (s : Schema) (name : List ℕ) → IsTrue (names_stand side s) → swapped side s (swapped side s name) ≡ name

abbrev pub IsReadBack : Type 0
IsReadBack = (style : WireStyle) (f : Form) (d : Document) → Stand style.json_names f → IsTrue (is_sound d) → unwire style f (wire style.json_names f d) ≡ Ok d

abbrev pub IsTextLawful : Type 0
IsTextLawful = (style : WireStyle) (f : Form) → Stand style.json_names f → IsLawfulText (wire_text style.json_names f) (wire_held style f)

abbrev pub TextsDiffer : Type 0
TextsDiffer = (names : Bool) (f : Form) → Stand names f → TellsApart (wire_text names f)

-- In a value nothing is found exactly where it follows its node.
abbrev pub ValueIsExact : Type 0
ValueIsExact = (n : Schema) (v : Value) → (misfit (form_of n) v ≡ None) ↔ IsTrue (follows (Some n) v)

-- An input is let through whole exactly where each write is of a member, whose node its value follows;
abbrev pub WholeIsExact : Type 0
WholeIsExact = (n : Schema) (ws : Writes) → IsTrue (is_structure_or_union (shape n).node.kind) → (whole_misfit_told n ws ≡ None) ↔ IsTrue (fields_follow None (shape n) ws)

-- by its body exactly where each write is so that stands in the body.
abbrev pub BodyIsExact : Type 0
BodyIsExact = (n : Schema) (ws : Writes) → IsTrue (is_structure_or_union (shape n).node.kind) → (body_misfit_told n ws ≡ None) ↔ IsTrue (body_follows n ws)

-- ---- values

-- what is read by a node of a body
abbrev pub value_in : WireStyle → Form → Schema → List ℕ → Option (Result Value SerdeError)
value_in style f n body = option_map (value_read n) (wire_held style f body)

-- The text of a value, read by a node that the value follows, gives the value's normal form.
abbrev pub ReadsNormalForm : Type 0
ReadsNormalForm =
    (style : WireStyle) (f : Form) (n : Schema) (v : Value) (d : Document) → Stand style.json_names f → Stands n → Follows n v →
    document_of v ≡ Ok d → IsTrue (is_document_in_range d) → nesting d ≤ max_nesting →
    value_in style f n (wire_text style.json_names f d) ≡ Some (Ok (normal_form n v))

-- the same of a structure or a union, read by the members of the node's shape
abbrev pub structure_in : WireStyle → Form → Schema → List ℕ → Option (Result Value SerdeError)
structure_in style f n body = option_map (value_of_structure value_read (shape n)) (wire_held style f body)

abbrev pub ReadsNormalStructure : Type 0
ReadsNormalStructure =
    (style : WireStyle) (f : Form) (n : Schema) (ws : Writes) (d : Document) → Stand style.json_names f → Stands n → Follows n (structure ws) →
    document_of (structure ws) ≡ Ok d → IsTrue (is_document_in_range d) → nesting d ≤ max_nesting →
    structure_in style f n (wire_text style.json_names f d) ≡ Some (Ok (normal_form n (structure ws)))

-- The JSON of a value that follows its node is what is said of it;
abbrev pub ValuesAreSaid : Type 0
ValuesAreSaid =
    (names : Bool) (n : Schema) (v : Value) (d : Document) → IsTrue (follows (Some n) v) → document_of v ≡ Ok d →
    wire names (form_of n) d ≡ said names (Some n) v

-- so is that of a body's fields.
abbrev pub FieldsAreSaid : Type 0
FieldsAreSaid =
    (names : Bool) (side : Side) (n : Schema) (ws : Writes) (d : Document) → IsTrue (fields_follow (Some side) (shape n) ws) →
    document_of (structure ws) ≡ Ok d →
    wire names (fields (Some side) (shape n)) d ≡ object_json (fields_said names (Some side) (shape n) ws)
