-- The JSON of a value, in the words of its shapes (Smithy, AWS restJson1 and AWS JSON 1.0 and 1.1: jsonName and timestampFormat traits).
use Rattle.std.specs.Prelude.{ℕ, ℤ, Bool, List, [], ◌∷◌, Option, Some, None, option_and_then, unwrap_or, if◌then◌else◌}
use Rattle.std.specs.Fmt.{signed_decimal}
use Rattle.std.specs.Result.{result_ok}
use Rattle.json.specs.Json as json
use Rattle.smithy_ids.specs.declared.traits.TimestampFormat.TheVariants as time
use Rattle.smithy_types.specs.Documents as doc
use Rattle.smithy_types.specs.Maps.{all_put}
use Rattle.smithy_types.specs.Timestamps.{timestamp_text}
use Rattle.smithy_types.specs.declared.date_time.Format.TheVariants.{DateTime, HttpDate}
use Rattle.smithy_serde.specs.DocumentOf.{base64, doc_of, key_text}
use Rattle.smithy_serde.specs.Values as value
use Rattle.smithy_serde.specs.Values.{Scalar, Value, scalar, list, structure, Writes, no_writes, write}
use Rattle.smithy_wire.specs.Words.{Json, Document, Schema, TimestampFormat, element_of, value_of, shape, number_text, option_map_or}
use Rattle.smithy_wire.specs.Forms.{either_format}
use Rattle.smithy_wire.specs.Misfits.{told_name}
use Rattle.smithy_wire.specs.WireNames.{field_named, named_in_json}
use Rattle.smithy_wire.specs.declared.side.Side.{Side}

-- a document as it is
abbrev mutual
  pub document_json : Document → Json
  document_json doc.null = json.null
  document_json (doc.boolean b) = json.boolean b
  document_json (doc.number n) = json.number (number_text n)
  document_json (doc.string s) = json.string s
  document_json (doc.array ds) = json.array (items_json ds)
  document_json (doc.object ms) = json.object (entries_json ms)

  pub items_json : doc.Items → json.Items
  items_json doc.no_items = json.no_items
  items_json (doc.item d ds) = json.item (document_json d) (items_json ds)

  pub entries_json : doc.Members → json.Members
  entries_json doc.no_members = json.no_members
  entries_json (doc.member k d ms) = json.member k (document_json d) (entries_json ms)

-- a time as its text in a calendar's format, else as its seconds
abbrev pub time_json : Option TimestampFormat → ℤ → Json
time_json (Some time.DateTime) seconds = json.string (unwrap_or (timestamp_text DateTime seconds) [])
time_json (Some time.HttpDate) seconds = json.string (unwrap_or (timestamp_text HttpDate seconds) [])
time_json _ seconds = json.number (signed_decimal seconds)

-- numbers, big ones too, as numbers, and a blob as its base64 text
abbrev pub scalar_json : Schema → Scalar → Json
scalar_json n (value.boolean b) = json.boolean b
scalar_json n (value.whole width z) = json.number (signed_decimal z)
scalar_json n (value.big_integer text) = json.number text
scalar_json n (value.big_decimal text) = json.number text
scalar_json n (value.text text) = json.string text
scalar_json n (value.blob bytes) = json.string (base64 bytes)
scalar_json n (value.timestamp seconds) = time_json (either_format n) seconds
scalar_json n (value.document d) = document_json d
scalar_json n value.null = json.null

-- the name of a field in JSON, where JSON names are applied
abbrev pub field_name : Bool → Option Side → Schema → List ℕ → List ℕ
field_name names side s name = if names then named_in_json side s name else name

-- the text that a map's key is
abbrev pub entry_name : Value → List ℕ
entry_name key = unwrap_or (option_and_then (λ d. result_ok (key_text d)) (doc_of key)) []

-- an object's members by the names of their values: each its name in JSON, and its JSON
abbrev pub Parts : Type 0
Parts = List (List ℕ × (List ℕ × Json))

abbrev pub members_json : Parts → json.Members
members_json [] = json.no_members
members_json (p ∷ ps) = json.member p.1.0 p.1.1 (members_json ps)

-- in byte order of the names of the values, of one name the last
abbrev pub object_json : Parts → Json
object_json ps = json.object (members_json (all_put ps []))

-- The JSON of a value by its node: a list is the array of its elements, a map the object of its entries, a structure or a union that
-- of its members by their names in JSON. Where no node stands, it is that of the value's document.
abbrev mutual
  pub said : Bool → Option Schema → Value → Json
  said names None v = option_map_or document_json (doc_of v) json.null
  said names (Some n) (scalar s) = scalar_json n s
  said names (Some n) (list ws) = json.array (elements_said names (element_of (shape n)) ws)
  said names (Some n) (value.map ws) = object_json (entries_said names (value_of (shape n)) ws)
  said names (Some n) (structure ws) = object_json (fields_said names None (shape n) ws)

  pub elements_said : Bool → Option Schema → Writes → json.Items
  elements_said names element no_writes = json.no_items
  elements_said names element (write l v ws) = json.item (said names element v) (elements_said names element ws)

  pub entries_said : Bool → Option Schema → Writes → Parts
  entries_said names values no_writes = []
  entries_said names values (write k key ws) = values_said names values (entry_name key) ws

  -- the value behind a key
  pub values_said : Bool → Option Schema → List ℕ → Writes → Parts
  values_said names values key no_writes = []
  values_said names values key (write l v ws) = (key, (key, said names values v)) ∷ entries_said names values ws

  pub fields_said : Bool → Option Side → Schema → Writes → Parts
  fields_said names side s no_writes = []
  fields_said names side s (write l v ws) =
      (told_name l, (field_name names side s (told_name l), said names (field_named side s (told_name l)) v)) ∷ fields_said names side s ws
