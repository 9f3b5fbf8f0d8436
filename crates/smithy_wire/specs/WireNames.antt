-- The names of fields in JSON (Smithy, jsonName trait).
use Rattle.std.specs.Prelude.{ℕ, Bool, true, false, not, is_some, ◌&&◌, List, [], ◌∷◌, find, filter, flat_map, Option, Some, None, if◌then◌else◌}
use Rattle.std.specs.Str.{is_utf8}
use Rattle.smithy_wire.specs.Words.{Schema, Table, member_named, members_of, name_of, element_of, value_of, shape, is_bound, is_response_bound, are_distinct, same_text, list_all, option_map_or, unwrap_or}
use Rattle.smithy_wire.specs.declared.side.Side.{Side}
use Rattle.smithy_wire.specs.declared.side.Side.TheVariants.{Request, Response}

-- the value of `@jsonName`, else the member's name
abbrev pub json_name : Schema → List ℕ
json_name m = unwrap_or m.node.traits.json_name (name_of m)

-- the names of a member, each once
abbrev pub names_of : Schema → List (List ℕ)
names_of m = if same_text (json_name m) (name_of m) then name_of m ∷ [] else name_of m ∷ json_name m ∷ []

-- a member that stands elsewhere in the message, at whose top it is
abbrev pub is_elsewhere : Option Side → Schema → Bool
is_elsewhere None m = false
is_elsewhere (Some Request) m = is_bound m
is_elsewhere (Some Response) m = is_response_bound m

-- a member stands in its structure's object: at the top of a message only without a binding, below it whatever traits it has
abbrev pub is_field : Option Side → Schema → Bool
is_field side m = is_some m.node.member_name && not (is_elsewhere side m)

abbrev pub if_field : Option Side → Schema → Option Schema
if_field side m = if is_field side m then Some m else None

-- the fields of a structure
abbrev pub fields_of : Option Side → Schema → List Schema
fields_of side schema = filter (is_field side) (members_of schema)

-- the field of a structure that has this name
abbrev pub field_named : Option Side → Schema → List ℕ → Option Schema
field_named side schema name = option_map_or (if_field side) (member_named schema name) None

-- the first field that has this name in JSON
abbrev pub field_in_json : Option Side → Schema → List ℕ → Option Schema
field_in_json side schema name = find (λ m. same_text (json_name m) name) (fields_of side schema)

-- the name in JSON of the field that has this name; other names stay
abbrev pub named_in_json : Option Side → Schema → List ℕ → List ℕ
named_in_json side schema name = option_map_or json_name (field_named side schema name) name

-- A field's name and its name in JSON change places, and other names stay. Where names stand, this undoes itself.
abbrev pub swapped : Option Side → Schema → List ℕ → List ℕ
swapped side schema name = option_map_or json_name (field_named side schema name) (option_map_or name_of (field_in_json side schema name) name)

-- ---- names that stand

-- the names of the fields
abbrev pub field_names : Option Side → Schema → List (List ℕ)
field_names side schema = flat_map names_of (fields_of side schema)

-- a field is found by its own name
abbrev pub is_found : Option Side → Schema → Schema → Bool
is_found side schema m = is_some (field_named side schema (name_of m))

abbrev pub are_found : Option Side → Schema → Bool
are_found side schema = list_all (is_found side schema) (fields_of side schema)

-- The JSON names of the fields differ, none is the name of another one of them, all names are UTF-8, and each field is found by its own.
abbrev pub names_stand : Option Side → Schema → Bool
names_stand side schema = are_distinct (field_names side schema) && list_all is_utf8 (field_names side schema) && are_found side schema

-- so do those of all members, where a value is of this node
abbrev pub value_stands : Schema → Bool
value_stands n = names_stand None (shape n)

-- where values are of the members, the elements and the values of a node
abbrev pub parts_stand : Schema → Bool
parts_stand n = list_all value_stands (members_of n) && option_map_or value_stands (element_of n) true && option_map_or value_stands (value_of n) true

-- and of those of each node of a table
abbrev pub table_stands : Table → Bool
table_stands table = list_all (λ place. option_map_or (λ node. parts_stand record { table = table; node = node }) place true) table

-- Names stand among the fields of a structure, and among all members of each one that values below it can be of.
abbrev pub structure_stands : Option Side → Schema → Bool
structure_stands side schema = names_stand side schema && parts_stand schema && table_stands schema.table

-- so they do in a message, at whose top the members stand that are bound nowhere else
abbrev pub stands : Side → Schema → Bool
stands side schema = structure_stands (Some side) (shape schema)

-- and in a value that is read and written whole
abbrev pub whole_stands : Schema → Bool
whole_stands schema = structure_stands None (shape schema)
