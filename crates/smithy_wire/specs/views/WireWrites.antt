-- What a writer of a body does.
use Rattle.std.specs.Prelude.{ℕ, List, Option, option_map, Result, ℤ}
use Rattle.json.specs.Tree.{json_tokens, items_tokens, members_tokens}
use Rattle.json.specs.Written.{Written}
use Rattle.smithy_document.specs.views.Printing.{Prints}
use Rattle.smithy_types.specs.Documents as doc
use Rattle.smithy_types.specs.Timestamps.{calendar_text, since_year_one}
use Rattle.smithy_types.specs.declared.date_time.Format.{Format}
use Rattle.smithy_wire.specs.Words.{Document, Number}
use Rattle.smithy_wire.specs.Forms.{Form}
use Rattle.smithy_wire.specs.Wire.{wire, wire_items, wire_members, wire_number, wire_string}
use Rattle.smithy_wire.specs.declared.wire_json.WireJson.{WireJson}
use Rattle.smithy_wire.specs.views.WireOf.{form_in, names_in}

-- the text of seconds in a calendar's format, where the year is 1 to 9999
abbrev pub time_in : Format → ℤ → Option (List ℕ)
time_in format seconds = option_map (calendar_text format) (since_year_one seconds)

-- the tokens of a number, a text, a document, items and members are written behind the others
abbrev pub WritesNumber : {A E : Type 0} → Form → Number → Written → Written → Result A E → Type 0
WritesNumber f n old new result = Prints (json_tokens (wire_number f n)) old new result

abbrev pub WritesString : {A E : Type 0} → Form → List ℕ → Written → Written → Result A E → Type 0
WritesString f s old new result = Prints (json_tokens (wire_string f s)) old new result

abbrev pub Writes : {A E : Type 0} → WireJson → Document → Written → Written → Result A E → Type 0
Writes w d old new result = Prints (json_tokens (wire (names_in w) (form_in w) d)) old new result

abbrev pub WritesItems : {A E : Type 0} → WireJson → doc.Items → Written → Written → Result A E → Type 0
WritesItems w ds old new result = Prints (items_tokens (wire_items (names_in w) (form_in w) ds)) old new result

abbrev pub WritesMembers : {A E : Type 0} → WireJson → doc.Members → Written → Written → Result A E → Type 0
WritesMembers w ms old new result = Prints (members_tokens (wire_members (names_in w) (form_in w) ms)) old new result
