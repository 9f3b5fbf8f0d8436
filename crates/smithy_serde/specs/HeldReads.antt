-- What each read of a held thing gives.
use Rattle.std.specs.Prelude.{ℕ, pos, Bool, true, false, codes, List, [], ◌∷◌, ◌++◌, map, flat_map, Option, Some, None, Result, Ok, Err}
use Rattle.std.specs.Option.{option_map_or}
use Rattle.std.specs.Str.Lossy.{utf8_lossy}
use Rattle.smithy_types.specs.Documents as doc
use Rattle.smithy_types.specs.Documents.{Document, list_of_items, list_of_members}
use Rattle.smithy_ids.specs.declared.shape_type.ShapeType.{ShapeType}
use Rattle.smithy_ids.specs.declared.shape_type.ShapeType.TheVariants as kind
use Rattle.smithy_http.specs.declared.error.ListFault.{ListFault}
use Rattle.smithy_http.specs.ListTexts.{list_texts}
use Rattle.smithy_http.specs.Refusals.{list_fault_text}
use Rattle.smithy_schema.specs.Nodes.{Schema, member_named}
use Rattle.smithy_serde.specs.Values as value
use Rattle.smithy_serde.specs.Values.{Scalar, integer}
use Rattle.smithy_serde.specs.declared.error.SerdeError.{SerdeError}
use Rattle.smithy_serde.specs.declared.error.SerdeError.TheVariants.{InvalidInput, UnsupportedOperation}
use Rattle.smithy_serde.specs.Held as held
use Rattle.smithy_serde.specs.Held.{Held, Prefixed}
use Rattle.smithy_serde.specs.Requests.{requested}
use Rattle.smithy_serde.specs.HeaderReads.{scalar_of_header, scalar_of_element, scalar_of_date, elements_of_header}
use Rattle.smithy_serde.specs.DocumentReads.{mismatch, scalar_of_document}
use Rattle.smithy_serde.specs.StringReads.{scalar_of_string}

abbrev pub status_refusal : ShapeType → SerdeError
status_refusal k = InvalidInput (codes "@httpResponseCode must target an integer, but " ++ requested k ++ codes " was requested")

abbrev pub prefix_refusal : ShapeType → SerdeError
prefix_refusal k = InvalidInput (codes "@httpPrefixHeaders must target a map, but " ++ requested k ++ codes " was requested")

abbrev pub raw_refusal : ShapeType → SerdeError
raw_refusal k = InvalidInput (codes "a raw @httpPayload is a blob or string, but " ++ requested k ++ codes " was requested")

abbrev pub scalar_of_status : ShapeType → ℕ → Result Scalar SerdeError
scalar_of_status kind.Integer n = Ok (value.whole integer (pos n))
scalar_of_status k n = Err (status_refusal k)

abbrev pub scalar_of_raw : ShapeType → List ℕ → Result Scalar SerdeError
scalar_of_raw kind.String bytes = Ok (value.text (utf8_lossy bytes))
scalar_of_raw kind.Blob bytes = Ok (value.blob bytes)
scalar_of_raw k bytes = Err (raw_refusal k)

-- the text of the string codec that is left
abbrev pub unread : List ℕ → Bool → Option (List ℕ)
unread text true = None
unread text false = Some text

-- A read as a scalar or a document. A header looks at the node's media type and time format, and nothing else at the node.
unfoldable pub read_scalar : ShapeType → Schema → Held → Result Scalar SerdeError
read_scalar k node (held.header name values) = scalar_of_header k node name values
read_scalar k node (held.element text) = scalar_of_element k text
read_scalar k node (held.date seconds) = scalar_of_date k seconds
read_scalar k node (held.prefixed entries) = Err (prefix_refusal k)
read_scalar k node (held.status n) = scalar_of_status k n
read_scalar k node (held.raw bytes) = scalar_of_raw k bytes
read_scalar k node (held.document d) = scalar_of_document k d
read_scalar k node (held.input text is_read) = scalar_of_string k (unread text is_read)
read_scalar k node (held.item text) = scalar_of_string k text
read_scalar k node (held.refused e) = Err e

-- what a container is called where one cannot be opened
abbrev pub container_words : ShapeType → List ℕ
container_words kind.List = codes "a list"
container_words kind.Map = codes "a map"
container_words _ = codes "a structure"

abbrev pub header_refusal : ShapeType → SerdeError
header_refusal kind.Map = UnsupportedOperation (codes "a map cannot be bound to a single HTTP header")
header_refusal k = UnsupportedOperation (codes "a structure cannot be bound to an HTTP header")

abbrev pub element_refusal : ShapeType → SerdeError
element_refusal kind.List = UnsupportedOperation (codes "a header-bound list cannot nest another list")
element_refusal k = UnsupportedOperation (container_words k ++ codes " cannot be an element of a header-bound list")

abbrev pub string_refusal : ShapeType → SerdeError
string_refusal kind.List = UnsupportedOperation (codes "nested lists cannot be deserialized from strings")
string_refusal kind.Map = UnsupportedOperation (codes "maps cannot be deserialized from strings")
string_refusal k = UnsupportedOperation (codes "structures cannot be deserialized from strings")

-- the refusal of opening a list, a map or a structure over what is none
abbrev pub opening_refusal : ShapeType → Held → SerdeError
opening_refusal k (held.header name values) = header_refusal k
opening_refusal k (held.element text) = element_refusal k
opening_refusal k (held.date seconds) = element_refusal k
opening_refusal k (held.prefixed entries) = prefix_refusal k
opening_refusal k (held.status n) = status_refusal k
opening_refusal k (held.raw bytes) = raw_refusal k
opening_refusal k (held.document d) = mismatch k d
opening_refusal k (held.input text is_read) = string_refusal k
opening_refusal k (held.item text) = string_refusal k
opening_refusal k (held.refused e) = e

abbrev pub or_list_refusal : {A : Type 0} → Result A ListFault → Result A SerdeError
or_list_refusal (Ok x) = Ok x
or_list_refusal (Err f) = Err (InvalidInput (codes "invalid list: " ++ list_fault_text f))

abbrev pub with_texts : Result (List (List ℕ)) SerdeError → Result (List Held) SerdeError
with_texts (Ok texts) = Ok (map (λ text. held.item (Some text)) texts)
with_texts (Err e) = Err e

-- The elements that opening a list hands out, in order. A text of the string codec is read from its start, also where it was read before.
unfoldable pub elements : Schema → Held → Result (List Held) SerdeError
elements node (held.document (doc.array ds)) = Ok (map (λ d. held.document d) (list_of_items ds))
elements node (held.header name values) = elements_of_header node values
elements node (held.input text is_read) = with_texts (or_list_refusal (list_texts text))
elements node h = Err (opening_refusal kind.List h)

-- the entries that opening a map hands out, in order
unfoldable pub entries : Schema → Held → Result (List (List ℕ × Held)) SerdeError
entries node (held.document (doc.object ms)) = Ok (map (λ m. (m.0, held.document m.1)) (list_of_members ms))
entries node (held.prefixed ps) = Ok (map (λ p. (p.key, held.header p.name p.values)) ps)
entries node h = Err (opening_refusal kind.Map h)

-- the field's member, if its name is one's
abbrev pub known : Schema → List ℕ × Document → List (Schema × Held)
known node field = option_map_or (λ m. (m, held.document field.1) ∷ []) (member_named node field.0) []

-- The members that opening a structure hands out: the fields that are members, in byte order of their names.
unfoldable pub fields : Schema → Held → Result (List (Schema × Held)) SerdeError
fields node (held.document (doc.object ms)) = Ok (flat_map (known node) (list_of_members ms))
fields node h = Err (opening_refusal kind.Structure h)
