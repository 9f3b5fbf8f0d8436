-- The texts of stored values, as the definitions see them.
use Rattle.std.specs.Prelude.{◌≡◌, ℕ, Bool, List, ◌++◌, String, string_bytes, Option, Some, None, option_map, is_some, false}
use Rattle.smithy_binding.specs.Words.{cow_str_bytes, each, ShapeType, TimestampFormat, Schema, Table, SerdeError, ShapeValue, WriteList, label_at, value_in, writes_in, Value, list, Write, list_of}
use Rattle.std.specs.declared.borrow.CowStr.{CowStr}
use Rattle.smithy_serde.specs.Values as value
use Rattle.smithy_strings.specs.declared.wire.Place.{Place}
use Rattle.smithy_strings.specs.declared.wire.Place.TheVariants.{Query}
use Rattle.smithy_strings.specs.Wire.{wire, HasText, HasMemberText}
use Rattle.smithy_strings.specs.Lists.{listed}
use Rattle.smithy_binding.specs.Bindings.{pairs_with}
use Rattle.smithy_binding.specs.Faults.{no_year}
use Rattle.smithy_binding.specs.Refusing.{TellsFault}
use Rattle.smithy_binding.specs.views.TargetParts.{queries}

-- a stored value under the node at a place
abbrev pub write_at : Table → ℕ → ShapeValue → Write
write_at t place v = record { label = label_at t place; value = value_in t v }

-- the list, or the map, of stored writes
abbrev pub list_in : Table → WriteList → Value
list_in t ws = list (writes_in t ws)

abbrev pub map_in : Table → WriteList → Value
map_in t ws = value.map (writes_in t ws)

-- the text of a value of a member, by the member's time format and media type
abbrev pub member_text : Place → Schema → Value → Option (List ℕ)
member_text place m v = wire m.node.traits.timestamp_format (is_some m.node.traits.media_type) place v

-- the text of an element, by the format of the node with which it was written
abbrev pub element_text : Place → Write → Option (List ℕ)
element_text place w = wire w.label.time_format false place w.value

-- the texts of stored elements, if each has one
abbrev pub element_texts : Place → Table → WriteList → Option (List (List ℕ))
element_texts place t ws = each (element_text place) (list_of (writes_in t ws))

-- the text that is there
abbrev pub IsThere : {Z : Type 0} → Option (List ℕ) → CowStr Z → Type 0
IsThere text s = text ≡ Some (cow_str_bytes s)

-- it is that of a stored value, whatever the table, and of a stored value of a member
abbrev pub IsText : {Z : Type 0} → Option TimestampFormat → Bool → Place → ShapeValue → CowStr Z → Type 0
IsText format has_media_type place v s = HasText format has_media_type place v (Some (cow_str_bytes s))

abbrev pub IsMemberText : {Z : Type 0} → Schema → Place → ShapeValue → CowStr Z → Type 0
IsMemberText m place v s = HasMemberText m place v (Some (cow_str_bytes s))

-- the value of a header is that of these texts of elements, which are there
abbrev pub IsListed : ShapeType → Option (List (List ℕ)) → List ℕ → Type 0
IsListed element texts s = option_map (listed element) texts ≡ Some s

-- there is no text, and the refusal tells of a year outside the calendar
abbrev pub LacksYear : {A : Type 0} → Option A → SerdeError → Type 0
LacksYear text = λ e. TellsFault e (λ f. (f ≡ no_year) × (text ≡ None))

-- so it is with the text of a stored value
abbrev pub LacksText : Option TimestampFormat → Bool → Place → ShapeValue → SerdeError → Type 0
LacksText format has_media_type place v = λ e. (t : Table) → LacksYear (wire format has_media_type place (value_in t v)) e

-- and with that of a stored value of a member
abbrev pub LacksMemberText : Schema → Place → ShapeValue → SerdeError → Type 0
LacksMemberText m place v = λ e. (t : Table) → LacksYear (member_text place m (value_in t v)) e

-- a pair of the name and the text of each stored element was added
abbrev pub AddsElements : {Z : Type 0} → List ℕ → Table → WriteList → String Z → String Z → Type 0
AddsElements name t ws old new = option_map (λ ts. string_bytes old ++ queries (pairs_with name ts)) (element_texts Query t ws) ≡ Some (string_bytes new)
