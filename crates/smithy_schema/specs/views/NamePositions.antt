-- The positions of names among members, as the code looks for them.
use Rattle.std.specs.Prelude.{ℕ, List, [], position, Option}
use Rattle.std.specs.Option.{unwrap_or}
use Rattle.smithy_schema.specs.Nodes.{Table, node_at}
use Rattle.smithy_schema.specs.views.MemberNames.{is_named_at, name_held}

-- the name of the member at a place, and nothing where it has none
abbrev pub key_at : Table → ℕ → List ℕ
key_at table place = unwrap_or (name_held (node_at table place)) []

-- the first position of a name among the members at these places
abbrev pub position_in : Table → List ℕ → List ℕ → Option ℕ
position_in table name places = position (is_named_at table name) places
