-- Names as the code has them, and the nodes of a table from a place on.
use Rattle.std.specs.Prelude.{◌≡◌, ◌++◌, ℕ, Bool, true, List, [], map, drop, Option}
use Rattle.smithy_wire.specs.Words.{Bor, Schema, Table, at_place, member_at, list_all, option_map_or}
use Rattle.smithy_wire.specs.declared.side.Side.{Side}
use Rattle.smithy_wire.specs.WireNames.{names_of, is_found, parts_stand, value_stands}
use Rattle.smithy_wire.specs.views.MemberSteps.{field_by_index}

abbrev pub texts_shown : List (Bor (List ℕ)) → List (List ℕ)
texts_shown names = map (λ t. t.now) names

-- the names of the field at a position, where there is one
abbrev pub names_at : Option Side → Schema → ℕ → List (List ℕ)
names_at side schema i = option_map_or names_of (field_by_index side schema i) []

-- it is found by its own name
abbrev pub is_found_at : Option Side → Schema → ℕ → Bool
is_found_at side schema i = option_map_or (is_found side schema) (field_by_index side schema i) true

-- these names stand behind the others
abbrev pub Adds : List (List ℕ) → List (Bor (List ℕ)) → List (Bor (List ℕ)) → Type 0
Adds more old new = texts_shown new ≡ texts_shown old ++ more

-- names stand where values are of a node, where there is one
abbrev pub may_stand : Option Schema → Bool
may_stand part = option_map_or value_stands part true

-- so they do of the member at a position
abbrev pub member_stands : Schema → ℕ → Bool
member_stands schema i = may_stand (member_at schema i)

-- and of what the node at a place cites
abbrev pub place_stands : Table → ℕ → Bool
place_stands table i = option_map_or parts_stand (at_place table i) true

-- and each node from a place on
abbrev pub table_stands_from : Table → ℕ → Bool
table_stands_from table i = list_all (λ place. option_map_or (λ node. parts_stand record { table = table; node = node }) place true) (drop i table)
