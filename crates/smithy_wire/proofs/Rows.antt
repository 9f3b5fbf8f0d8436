-- Worked rows of the definitions.
use Rattle.smithy_wire.proofs.Common.{◌≡◌, refl, ℕ, true, false, List, [], ◌∷◌, Some, None, pos}
use Rattle.std.specs.Prelude.{codes, neg_ℤ}
use Rattle.json.specs.Json as json
use Rattle.smithy_ids.specs.declared.shape_type.ShapeType.{ShapeType}
use Rattle.smithy_ids.specs.declared.shape_type.ShapeType.TheVariants as kind
use Rattle.smithy_ids.specs.declared.traits.TimestampFormat.TheVariants as time
use Rattle.smithy_schema.specs.Nodes.{Schema, Table, bare_node, no_traits}
use Rattle.smithy_serde.specs.Values as value
use Rattle.smithy_serde.specs.Values.{Value, Writes, no_writes, scalar, structure, write}
use Rattle.smithy_types.specs.Documents as doc
use Rattle.smithy_wire.specs.ExactNumbers.{is_integer, is_number, whole_number}
use Rattle.smithy_wire.specs.Follows.{follows}
use Rattle.smithy_wire.specs.Forms.{free, date_time, http_date, big_integer, big_decimal, whole, document}
use Rattle.smithy_wire.specs.Said.{said}
use Rattle.smithy_wire.specs.Unwire.{number_read, string_read}
use Rattle.smithy_wire.specs.Wire.{wire_number, wire_string}
use Rattle.smithy_wire.specs.WireText.{unread_text}
use Rattle.smithy_wire.proofs.OnLiterals.{wire_on_literals}

pub time_as_date_time : wire_number date_time (doc.positive 1515523620) ≡ json.string (codes "2018-01-09T18:47:00Z")
unfolding wire_on_literals
time_as_date_time = refl

pub time_past_the_calendar : wire_number http_date (doc.positive 253402300800) ≡ json.number (codes "253402300800")
unfolding wire_on_literals
time_past_the_calendar = refl

pub text_where_a_time_stands : wire_string date_time (codes "x") ≡ json.string (codes "x ")
unfolding wire_on_literals
text_where_a_time_stands = refl

pub decimal_as_it_is_written : wire_string big_decimal (codes "1.50e-7") ≡ json.number (codes "1.50e-7")
unfolding wire_on_literals
decimal_as_it_is_written = refl

pub no_number_of_json : is_number (codes "+5") ≡ false
unfolding wire_on_literals
no_number_of_json = refl

pub no_integer : is_integer (codes "1e3") ≡ false
unfolding wire_on_literals
no_integer = refl

pub whole_with_a_point : whole_number (codes "-2.50e1") ≡ Some (doc.number_of (neg_ℤ (pos 25)))
unfolding wire_on_literals
whole_with_a_point = refl

pub fraction_is_not_whole : number_read true (whole kind.Integer) (codes "1.5") ≡ None
unfolding wire_on_literals
fraction_is_not_whole = refl

pub free_fraction_is_null : number_read false free (codes "1.5") ≡ Some doc.null
unfolding wire_on_literals
free_fraction_is_null = refl

pub document_has_no_fraction : number_read false document (codes "1.5") ≡ None
unfolding wire_on_literals
document_has_no_fraction = refl

pub big_integer_with_an_exponent : number_read false big_integer (codes "1e3") ≡ Some (doc.string (codes "1000"))
unfolding wire_on_literals
big_integer_with_an_exponent = refl

pub wide_integer : number_read false big_integer (codes "-1.5E38") ≡ Some (doc.string (codes "-150000000000000000000000000000000000000"))
unfolding wire_on_literals
wide_integer = refl

pub widest_integer : number_read false big_integer (codes "-170141183460469231731687303715884105728.0") ≡ Some (doc.string (codes "-170141183460469231731687303715884105728"))
unfolding wire_on_literals
widest_integer = refl

pub integer_past_128_bits : number_read false big_integer (codes "1.70141183460469231731687303715884105728e38") ≡ None
unfolding wire_on_literals
integer_past_128_bits = refl

pub seconds_with_a_fraction : number_read true (whole kind.Timestamp) (codes "1363729002.358") ≡ Some (doc.number (doc.positive 1363729002))
unfolding wire_on_literals
seconds_with_a_fraction = refl

pub seconds_before_1970 : number_read true date_time (codes "-0.5") ≡ Some (doc.number (doc.number_of (neg_ℤ (pos 1))))
unfolding wire_on_literals
seconds_before_1970 = refl

pub fraction_of_seconds_is_refused : number_read false (whole kind.Timestamp) (codes "1363729002.358") ≡ None
unfolding wire_on_literals
fraction_of_seconds_is_refused = refl

pub time_that_is_read : string_read false http_date (codes "Tue, 09 Jan 2018 18:47:00 GMT") ≡ Some (doc.number (doc.positive 1515523620))
unfolding wire_on_literals
time_that_is_read = refl

pub time_with_an_offset : string_read false date_time (codes "2018-01-10t00:17:00+05:30") ≡ Some (doc.number (doc.positive 1515523620))
unfolding wire_on_literals
time_with_an_offset = refl

pub time_with_a_fraction : string_read true date_time (codes "2018-01-09T18:47:00.999Z") ≡ Some (doc.number (doc.positive 1515523620))
unfolding wire_on_literals
time_with_a_fraction = refl

pub fraction_is_refused : string_read false http_date (codes "Tue, 09 Jan 2018 18:47:00.5 GMT") ≡ None
unfolding wire_on_literals
fraction_is_refused = refl

pub refusal_with_its_path : unread_text record { text = codes "1.5"; word = codes "integer"; path = codes ".Table[2]" } ≡ codes "cannot read 1.5 as integer at Table[2]"
unfolding wire_on_literals
refusal_with_its_path = refl

-- ---- what is said of values

-- a structure with a member `id`, which is `ID` in JSON, and one with a date
abbrev members_table : Table
members_table =
    None
    ∷ Some (record (bare_node (codes "a#S$id") kind.String) { member_name = Some (codes "id"); member_index = Some 0; traits = record no_traits { json_name = Some (codes "ID") } })
    ∷ Some (record (bare_node (codes "a#S$at") kind.Timestamp) { member_name = Some (codes "at"); member_index = Some 1; traits = record no_traits { timestamp_format = Some time.DateTime } })
    ∷ []

abbrev node_of : ShapeType → Schema
node_of k = record { table = members_table; node = record (bare_node (codes "a#S") k) { members = 1 ∷ 2 ∷ [] } }

abbrev named : List ℕ → Value → Writes → Writes
named name v ws = write (record { full_name = []; member_name = Some name; member_index = None; time_format = None }) v ws

abbrev an_id : Writes → Writes
an_id ws = named (codes "id") (scalar (value.text (codes "x"))) ws

abbrev a_date : Writes → Writes
a_date ws = named (codes "at") (scalar (value.timestamp (pos 1515523620))) ws

pub members_by_their_names : said true (Some (node_of kind.Structure)) (structure (an_id (a_date no_writes)))
    ≡ json.object (json.member (codes "at") (json.string (codes "2018-01-09T18:47:00Z")) (json.member (codes "ID") (json.string (codes "x")) json.no_members))
unfolding wire_on_literals
members_by_their_names = refl

pub a_structure_follows : follows (Some (node_of kind.Structure)) (structure (an_id (a_date no_writes))) ≡ true
unfolding wire_on_literals
a_structure_follows = refl

pub a_union_has_one_member : follows (Some (node_of kind.Union)) (structure (an_id (a_date no_writes))) ≡ false
unfolding wire_on_literals
a_union_has_one_member = refl

pub each_write_is_of_a_member : follows (Some (node_of kind.Structure)) (structure (named (codes "ID") (scalar (value.text (codes "x"))) no_writes)) ≡ false
unfolding wire_on_literals
each_write_is_of_a_member = refl

pub each_value_is_of_its_kind : follows (Some (node_of kind.Structure)) (structure (named (codes "id") (scalar (value.boolean true)) no_writes)) ≡ false
unfolding wire_on_literals
each_value_is_of_its_kind = refl

pub a_date_has_its_year : follows (Some (node_of kind.Structure)) (structure (named (codes "at") (scalar (value.timestamp (pos 253402300800))) no_writes)) ≡ false
unfolding wire_on_literals
a_date_has_its_year = refl
