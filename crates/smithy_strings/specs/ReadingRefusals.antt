-- The refusals of the string codec's reader.
use Rattle.std.specs.Prelude.{ℕ, codes, List, ◌++◌}
use Rattle.smithy_http.specs.declared.error.ListFault.{ListFault}
use Rattle.smithy_http.specs.Refusals.{list_fault_text}
use Rattle.smithy_ids.specs.declared.shape_type.ShapeType.{ShapeType}
use Rattle.smithy_ids.specs.declared.shape_type.ShapeType.TheVariants as kind
use Rattle.smithy_serde.specs.declared.error.SerdeError.{SerdeError}
use Rattle.smithy_serde.specs.declared.error.SerdeError.TheVariants.{InvalidInput, UnsupportedOperation}
use Rattle.smithy_serde.specs.declared.scalar.Group.{Group}
use Rattle.smithy_serde.specs.declared.scalar.Group.TheVariants as group
use Rattle.smithy_serde.specs.Requests.{plain_word}

-- bytes that are no text
abbrev pub not_utf8 : SerdeError
not_utf8 = InvalidInput (codes "input is not UTF-8")

-- no text is left
abbrev pub no_value : ShapeType → SerdeError
no_value k = InvalidInput (codes "expected " ++ plain_word k ++ codes " value")

-- a text that is none of what the word names
abbrev pub no_text_of : List ℕ → List ℕ → SerdeError
no_text_of word text = InvalidInput (codes "invalid " ++ word ++ codes ": " ++ text)

-- a document
abbrev pub no_document : SerdeError
no_document = UnsupportedOperation (codes "documents cannot be deserialized from strings")

-- a text that spells no list
abbrev pub no_list : ListFault → SerdeError
no_list f = InvalidInput (codes "invalid list: " ++ list_fault_text f)

-- what a group is opened as
abbrev pub shape_of : Group → ShapeType
shape_of group.List = kind.List
shape_of group.Map = kind.Map
shape_of group.Structure = kind.Structure
