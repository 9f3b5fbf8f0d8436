-- What a place of a body is read and written as, by its node.
use Rattle.std.specs.Prelude.{ℕ, Bool, true, false, List, codes, Option, Some, None, find, ◌&&◌}
use Rattle.smithy_ids.specs.declared.shape_type.ShapeType.TheVariants as kind
use Rattle.smithy_ids.specs.declared.traits.TimestampFormat.TheVariants as time
use Rattle.smithy_wire.specs.Words.{Schema, ShapeType, TimestampFormat, kind_word, element_of, value_of, shape, time_format, members_of, option_map_or, option_or}
use Rattle.smithy_wire.specs.declared.side.Side.{Side}
use Rattle.smithy_wire.specs.WireNames.{field_named, swapped}

pub data Form : Type 0 where
  -- no node asks for anything
  free : Form
  -- the fields of a structure or union, at the top of a side or elsewhere
  fields : Option Side → Schema → Form
  -- by the nodes of the elements, and of the values
  items : Option Schema → Form
  entries : Option Schema → Form
  -- a time as a text
  date_time : Form
  http_date : Form
  big_integer : Form
  big_decimal : Form
  -- a whole number of this kind
  whole : ShapeType → Form
  -- a document, and what stands in one
  document : Form
  -- of this kind
  other : ShapeType → Form

-- the node's own format, else its shape's
abbrev pub either_format : Schema → Option TimestampFormat
either_format n = option_or (time_format n) (time_format (shape n))

-- a timestamp, in its format (Smithy, timestampFormat trait); seconds where there is none
abbrev pub time_form : Option TimestampFormat → Form
time_form (Some time.DateTime) = date_time
time_form (Some time.HttpDate) = http_date
time_form (Some time.EpochSeconds) = whole kind.Timestamp
time_form None = whole kind.Timestamp

abbrev pub form_by : ShapeType → Option Side → Schema → Form
form_by kind.Structure side n = fields side (shape n)
form_by kind.Union side n = fields side (shape n)
form_by kind.List side n = items (element_of (shape n))
form_by kind.Map side n = entries (value_of (shape n))
form_by kind.Timestamp side n = time_form (either_format n)
form_by kind.BigInteger side n = big_integer
form_by kind.BigDecimal side n = big_decimal
form_by kind.Byte side n = whole kind.Byte
form_by kind.Short side n = whole kind.Short
form_by kind.Integer side n = whole kind.Integer
form_by kind.Long side n = whole kind.Long
form_by kind.Document side n = document
form_by kind.Boolean side n = other kind.Boolean
form_by kind.Float side n = other kind.Float
form_by kind.Double side n = other kind.Double
form_by kind.String side n = other kind.String
form_by kind.Blob side n = other kind.Blob
form_by kind.Member side n = other kind.Member

-- the form of a node below the top
abbrev pub form_of : Schema → Form
form_of n = form_by (shape n).node.kind None n

abbrev pub form_or_free : Option Schema → Form
form_or_free here = option_map_or form_of here free

-- the form of an array's items
abbrev pub element_form : Form → Form
element_form (items element) = form_or_free element
element_form document = document
element_form _ = free

-- the form of what stands in an object under a name, which is a field's own
abbrev pub part_form : Form → List ℕ → Form
part_form (fields side s) name = form_or_free (field_named side s name)
part_form (entries value) name = form_or_free value
part_form document name = document
part_form _ name = free

-- a field's name in JSON for its own, and back; where JSON names are not applied, and elsewhere than in a structure, names stay
abbrev pub name_in : Bool → Form → List ℕ → List ℕ
name_in true (fields side s) name = swapped side s name
name_in _ _ name = name

-- the kind of values that a form asks for, if it asks for one
abbrev pub form_kind : Form → Option ShapeType
form_kind free = None
form_kind (fields side s) = Some s.node.kind
form_kind (items element) = Some kind.List
form_kind (entries value) = Some kind.Map
form_kind date_time = Some kind.Timestamp
form_kind http_date = Some kind.Timestamp
form_kind big_integer = Some kind.BigInteger
form_kind big_decimal = Some kind.BigDecimal
form_kind (whole k) = Some k
form_kind document = Some kind.Document
form_kind (other k) = Some k

-- its word in messages
abbrev pub form_word : Form → List ℕ
form_word f = option_map_or kind_word (form_kind f) (codes "value")

-- ---- roots

-- a payload that a codec writes: the bytes of a blob and of a string stand as they are
abbrev pub is_coded : ShapeType → Bool
is_coded kind.Blob = false
is_coded kind.String = false
is_coded _ = true

abbrev pub is_coded_payload : Schema → Bool
is_coded_payload m = m.node.traits.http_payload && is_coded (shape m).node.kind

-- the form of the whole of a node, whatever bindings it has
abbrev pub whole_form : Schema → Form
whole_form schema = form_of schema

-- the form of a message's body: that of its payload, where it has one that a codec writes, else that of its fields
abbrev pub body_form : Side → Schema → Form
body_form side schema =
    option_map_or form_of (find is_coded_payload (members_of (shape schema))) (form_by (shape schema).node.kind (Some side) schema)
