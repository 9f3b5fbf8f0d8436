-- What each schema keeps by its making, and so does each node of its table: its full name is an identifier's, its names and the
-- texts of its bindings are UTF-8, and at each position of its members stands a member with that index and a name.
use Rattle.std.specs.Prelude.{ℕ, ◌+◌, Bool, true, false, ◌&&◌, ◌||◌, ◌==◌, List, [], ◌∷◌, Option, option_map, is_some, is_none}
use Rattle.std.specs.List.{list_all}
use Rattle.std.specs.Option.{option_map_or}
use Rattle.std.specs.Str.{is_utf8}
use Rattle.smithy_ids.specs.ShapeIds.{has_hash}
use Rattle.smithy_schema.specs.Nodes.{Traits, Node, Table, Schema, at_place}

-- the text, if there is one, is UTF-8
abbrev pub has_utf8 : Option (List ℕ) → Bool
has_utf8 t = option_map_or is_utf8 t true

-- so are the texts of the traits that a request depends on
abbrev pub has_utf8_traits : Traits → Bool
has_utf8_traits t =
    has_utf8 t.http_header && has_utf8 t.http_prefix_headers && has_utf8 t.http_query && has_utf8 (option_map (λ h. h.uri) t.http)

-- and those of a node
abbrev pub has_utf8_texts : Node → Bool
has_utf8_texts node = is_utf8 node.full_name && has_utf8 node.member_name && has_utf8_traits node.traits

-- the full name is an identifier's, a node with an index has a name, and names and the texts of bindings are UTF-8
abbrev pub is_whole : Node → Bool
is_whole node = has_hash node.full_name && (is_some node.member_name || is_none node.member_index) && has_utf8_texts node

-- the member at each position has that position for its index, and a name
abbrev pub are_in_place : ℕ → Table → List ℕ → Bool
are_in_place i table [] = true
are_in_place i table (place ∷ places) =
    option_map_or (λ m. option_map_or (λ k. k == i) m.node.member_index false && is_some m.node.member_name) (at_place table place) false
    && are_in_place (i + 1) table places

-- the node is whole, and its members are in place
abbrev pub is_node_well_made : Table → Node → Bool
is_node_well_made table node = is_whole node && are_in_place 0 table node.members

-- each node of the table is so
abbrev pub is_table_well_made : Table → Bool
is_table_well_made table = list_all (λ n. option_map_or (is_node_well_made table) n true) table

-- the schema and each node of its table are such as the calls that make them give
abbrev pub is_well_made : Schema → Bool
is_well_made schema = is_table_well_made schema.table && is_node_well_made schema.table schema.node
