-- What reading a document by the node of the value that it was made of gives (Smithy, data model).
use Rattle.std.specs.Prelude.{◌≡◌, ◌↔◌, true, false, Ok, Err, Some, None}
use Rattle.smithy_document.specs.Words.{Document, Number, is_canonical, Schema, shape, Width, Value, Writes, whole, structure, document_of, document_fault, integer_of_number, number_text, read_scalar, is_in_width, document_word, NumericCoercionOverflow}
use Rattle.smithy_types.specs.Documents as doc
use Rattle.smithy_schema.specs.Defining.{IsSound, HasMembersInPlace}
use Rattle.smithy_serde.specs.Fits.{width_kind}
use Rattle.smithy_serde.specs.Held as held
use Rattle.smithy_serde.specs.NormalBody.{settled}
use Rattle.smithy_serde.specs.Shaped.{is_shaped}
use Rattle.smithy_serde.specs.ValueRead.{value_read, value_of_structure}

-- The schema stands in a table: each position of its members, and of those of each node of its table, has a member with that index and a name.
pub record Stands (n : Schema) : Type 0 where
  pub table : IsSound n.table
  pub members : HasMembersInPlace n

-- the value follows the node at every depth
abbrev pub Follows : Schema → Value → Type 0
Follows n v = is_shaped (Some n) v ≡ true

abbrev pub normal_form : Schema → Value → Value
normal_form n v = settled (Some n) v

-- A value that follows a node has a document, which is canonical.
abbrev pub HasDocument : Type 0
HasDocument = (n : Schema) (v : Value) → Follows n v → document_fault v ≡ None

abbrev pub HasCanonicalDocument : Type 0
HasCanonicalDocument = (n : Schema) (v : Value) (d : Document) → Follows n v → document_of v ≡ Ok d → is_canonical d ≡ true

-- its normal form has the same one
abbrev pub NormalFormHasDocument : Type 0
NormalFormHasDocument = (n : Schema) (v : Value) → Follows n v → document_of (normal_form n v) ≡ document_of v

-- The document of a value, read by a node that the value follows, gives the value's normal form.
abbrev pub ReadsNormalForm : Type 0
ReadsNormalForm =
    (n : Schema) (v : Value) (d : Document) → Stands n → Follows n v → document_of v ≡ Ok d →
    value_read n (held.document d) ≡ Ok (normal_form n v)

-- the same of a structure or a union, read by the members of the node's shape
abbrev pub ReadsNormalStructure : Type 0
ReadsNormalStructure =
    (n : Schema) (ws : Writes) (d : Document) → Stands n → Follows n (structure ws) → document_of (structure ws) ≡ Ok d →
    value_of_structure value_read (shape n) (held.document d) ≡ Ok (normal_form n (structure ws))

-- Two values that follow one node have one document exactly if they have one normal form.
abbrev pub TellsNormalForm : Type 0
TellsNormalForm =
    (n : Schema) (v w : Value) → Stands n → Follows n v → Follows n w →
    (document_of v ≡ document_of w) ↔ (normal_form n v ≡ normal_form n w)

-- no two normal forms have one document
abbrev pub TellsApartNormalForms : Type 0
TellsApartNormalForms =
    (n : Schema) (v w : Value) → Stands n → Follows n v → Follows n w →
    document_of (normal_form n v) ≡ document_of (normal_form n w) → normal_form n v ≡ normal_form n w

-- A number of a document is read as a signed number of 8, 16, 32 or 64 bits where it fits.
abbrev pub ReadsWhatFits : Type 0
ReadsWhatFits =
    (w : Width) (n : Schema) (x : Number) → is_in_width w (integer_of_number x) ≡ true →
    read_scalar (width_kind w) n (held.document (doc.number x)) ≡ Ok (whole w (integer_of_number x))

-- Where it doesn't, it is refused.
abbrev pub RefusesTheRest : Type 0
RefusesTheRest =
    (w : Width) (n : Schema) (x : Number) → is_in_width w (integer_of_number x) ≡ false →
    read_scalar (width_kind w) n (held.document (doc.number x))
    ≡ Err (NumericCoercionOverflow (document_word (width_kind w)) (number_text x))
