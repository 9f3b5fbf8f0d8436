-- The JSON that AWS's protocols write for a document, by a node. Its numbers are texts.
use Rattle.std.specs.Prelude.{ℕ, Bool, List, codes, ◌++◌, if◌then◌else◌}
use Rattle.json.specs.Json as json
use Rattle.smithy_types.specs.Documents as doc
use Rattle.smithy_types.specs.declared.date_time.Format.{Format}
use Rattle.smithy_types.specs.declared.date_time.Format.TheVariants.{DateTime, HttpDate}
use Rattle.smithy_types.specs.Timestamps.{timestamp_text}
use Rattle.smithy_wire.specs.Words.{Json, Document, Number, integer_of_number, number_text, option_map_or}
use Rattle.smithy_wire.specs.ExactNumbers.{is_number, is_integer}
use Rattle.smithy_wire.specs.Forms.{Form, date_time, http_date, big_integer, big_decimal, element_form, part_form, name_in}

-- seconds as a text of the format; as a number where the year is not 1 to 9999
abbrev pub wire_time : Format → Number → Json
wire_time format n = option_map_or json.string (timestamp_text format (integer_of_number n)) (json.number (number_text n))

-- A number in decimal. Where a big number stands, which no shaped value has as a number, it is a text.
abbrev pub wire_number : Form → Number → Json
wire_number date_time n = wire_time DateTime n
wire_number http_date n = wire_time HttpDate n
wire_number big_integer n = json.string (number_text n)
wire_number big_decimal n = json.string (number_text n)
wire_number _ n = json.number (number_text n)

-- The text of a big number is a number, where it is one of JSON. Where a time stands, which no shaped value has as a text, a text gets a
-- blank behind it.
abbrev pub wire_string : Form → List ℕ → Json
wire_string date_time s = json.string (s ++ codes " ")
wire_string http_date s = json.string (s ++ codes " ")
wire_string big_integer s = if is_integer s then json.number s else json.string s
wire_string big_decimal s = if is_number s then json.number s else json.string s
wire_string _ s = json.string s

-- the JSON of a document, the fields of an object in the document's order
abbrev mutual
  pub wire : Bool → Form → Document → Json
  wire names f doc.null = json.null
  wire names f (doc.boolean b) = json.boolean b
  wire names f (doc.number n) = wire_number f n
  wire names f (doc.string s) = wire_string f s
  wire names f (doc.array ds) = json.array (wire_items names (element_form f) ds)
  wire names f (doc.object ms) = json.object (wire_members names f ms)

  pub wire_items : Bool → Form → doc.Items → json.Items
  wire_items names f doc.no_items = json.no_items
  wire_items names f (doc.item d ds) = json.item (wire names f d) (wire_items names f ds)

  pub wire_members : Bool → Form → doc.Members → json.Members
  wire_members names f doc.no_members = json.no_members
  wire_members names f (doc.member k d ms) = json.member (name_in names f k) (wire names (part_form f k) d) (wire_members names f ms)
