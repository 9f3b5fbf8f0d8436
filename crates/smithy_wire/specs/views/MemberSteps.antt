-- The members of a structure, a position at a time.
use Rattle.std.specs.Prelude.{ℕ, ◌&&◌, List, drop, find, filter, filter_map, Option, Some, None, if◌then◌else◌}
use Rattle.smithy_wire.specs.Words.{Schema, at_place, member_at, same_text, option_map_or}
use Rattle.smithy_wire.specs.declared.side.Side.{Side}
use Rattle.smithy_wire.specs.WireNames.{json_name, if_field, is_field}
use Rattle.smithy_wire.specs.Forms.{is_coded_payload}

-- those from a position on
abbrev pub members_from : Schema → ℕ → List Schema
members_from schema i = filter_map (at_place schema.table) (drop i schema.node.members)

-- the member, where it is a field that has this name in JSON
abbrev pub if_in_json : Option Side → List ℕ → Option Schema → Option Schema
if_in_json side name member = option_map_or (λ m. if is_field side m && same_text (json_name m) name then Some m else None) member None

-- the field that the member at a position is, where it is one
abbrev pub field_by_index : Option Side → Schema → ℕ → Option Schema
field_by_index side schema i = option_map_or (if_field side) (member_at schema i) None

-- the fields from a position on
abbrev pub fields_from : Option Side → Schema → ℕ → List Schema
fields_from side schema i = filter (is_field side) (members_from schema i)

-- the field that the member at a position is, where it has this name in JSON
abbrev pub json_field_at : Option Side → List ℕ → Schema → ℕ → Option Schema
json_field_at side name schema i = if_in_json side name (member_at schema i)

-- the first such member from a position on
abbrev pub json_from : Option Side → List ℕ → Schema → ℕ → Option Schema
json_from side name schema i = find (λ m. same_text (json_name m) name) (fields_from side schema i)

-- the member at a position, where it is a payload that a codec writes
abbrev pub coded_payload_in : Schema → ℕ → Option Schema
coded_payload_in schema i = option_map_or (λ m. if is_coded_payload m then Some m else None) (member_at schema i) None

-- the first such member from a position on
abbrev pub payload_from : Schema → ℕ → Option Schema
payload_from schema i = find is_coded_payload (members_from schema i)
