-- Where the names of a node's members stand, as the code keeps it.
use Rattle.std.specs.Prelude.{◌≡◌, ℕ, Bool, true, false, ◌&&◌, List, [], ◌∷◌, map, position, slice_get, String, Option, Some, None, All}
use Rattle.std.specs.Option.{option_map_or, option_or}
use Rattle.std.specs.Global.{Global}
use Rattle.std.specs.BTreeMap.{BTreeMap, get_by_text}
use Rattle.std.specs.Cmp.Lexicographic.{slice_cmp}
use Rattle.std.specs.Ordering.{nat_cmp, is_lt}
use Rattle.smithy_types.specs.Texts.{same_text}
use Rattle.smithy_schema.specs.declared.member_names.MappedNames.{MappedNames}
use Rattle.smithy_schema.specs.declared.member_names.MemberNames.{MemberNames}
use Rattle.smithy_schema.specs.declared.member_names.MemberNames.TheVariants.{Ascending, Mapped}
use Rattle.smithy_schema.specs.Nodes.{Node, Table, Schema, at_place, node_at, has_name, member_named}

-- the place holds a node with this name
abbrev pub is_named_at : Table → List ℕ → ℕ → Bool
is_named_at table name place = option_map_or (has_name name) (at_place table place) false

-- the map has the first position of each name among the members at these places, and no other name
pub record HasPositions (table : Table) (places : List ℕ) (positions : BTreeMap (String Global) ℕ) : Type 0 where
  pub at : (name : List ℕ) → get_by_text positions name ≡ position (is_named_at table name) places

-- the position is some name's
abbrev pub IsOfName : BTreeMap (String Global) ℕ → ℕ → Type 0
IsOfName positions p = (name : List ℕ) × (get_by_text positions name ≡ Some p)

-- so is each of these, in whatever order they stand
abbrev pub AreOfNames : BTreeMap (String Global) ℕ → List ℕ → Type 0
AreOfNames positions followers = All (IsOfName positions) followers

-- the member is the schema's first one with whatever name it has
abbrev pub IsFirstOfName : Schema → Schema → Type 0
IsFirstOfName schema member = (name : List ℕ) → has_name name member ≡ true → member_named schema name ≡ Some member

-- a place that holds no node has no name
abbrev pub name_held : Option Node → Option (List ℕ)
name_held None = None
name_held (Some node) = node.member_name

-- the position, where the test passes
abbrev pub position_if : Bool → ℕ → Option ℕ
position_if true position = Some position
position_if false position = None

-- the position, where its name is the one that is looked for
abbrev pub position_for : List ℕ → Option (List ℕ) → ℕ → Option ℕ
position_for name own position = position_if (option_map_or (same_text name) own false) position

-- one more member behind the others, with this name if any: a name that stands keeps its position
abbrev pub HasOneMore : BTreeMap (String Global) ℕ → Option (List ℕ) → ℕ → BTreeMap (String Global) ℕ → Type 0
HasOneMore old own position new = (name : List ℕ) → get_by_text new name ≡ option_or (get_by_text old name) (position_for name own position)

-- the names of the members at these places
abbrev pub names_in : Table → List ℕ → List (Option (List ℕ))
names_in table places = map (λ place. name_held (node_at table place)) places

-- the name stands behind the one before it in byte order, if there is one
abbrev pub rises : (before name : Option (List ℕ)) → Bool
rises before None = false
rises None (Some name) = true
rises (Some before) (Some name) = is_lt (slice_cmp nat_cmp before name)

-- so does each of these names
abbrev pub ascend : Option (List ℕ) → List (Option (List ℕ)) → Bool
ascend before [] = true
ascend before (name ∷ names) = rises before name && ascend name names

-- the map has the positions of the members' names, and its followers are none but these
pub record IsMapped (table : Table) (places : List ℕ) (m : MappedNames) : Type 0 where
  pub positions : HasPositions table places m.positions
  pub followers : AreOfNames m.positions m.followers.items

-- the members at these places are found by their names: these ascend, or stand in a map
abbrev pub FindsNames : Table → List ℕ → MemberNames → Type 0
FindsNames table places Ascending = ascend None (names_in table places) ≡ true
FindsNames table places (Mapped m) = IsMapped table places m.value

-- a position that a name is looked for at first
abbrev pub IsLead : MemberNames → ℕ → Type 0
IsLead Ascending position = Unit {0}
IsLead (Mapped m) position = (before : ℕ) × (slice_get m.value.followers.items before ≡ Some position)
