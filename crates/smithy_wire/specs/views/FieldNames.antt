-- What is known of the names in JSON of a node's members.
use Rattle.std.specs.Prelude.{◌≡◌, ⊤, ℕ, Bool, true, ◌||◌, List, map, String, Option, Some, None}
use Rattle.std.specs.BTreeMap.{BTreeMap, get_by_text}
use Rattle.std.specs.Coded.{Unit-prop}
use Rattle.std.specs.Global.{Global}
use Rattle.std.specs.Option.{is_some}
use Rattle.std.proofs.Math.Bool.{Bool-set}
use Rattle.smithy_schema.specs.Columns.{Column, cell_at}
use Rattle.smithy_wire.specs.Words.{Schema, Table, at_place, is_one_of, list_all, member_at, members_of, name_of, option_map_or, same_text}
use Rattle.smithy_wire.specs.WireNames.{json_name}
use Rattle.smithy_wire.specs.declared.node_names.NodeNames.{NodeNames}
use Rattle.smithy_wire.specs.declared.node_names.NodeNames.TheVariants.{Own, Few, Mapped}

-- the member is named in JSON as it is
abbrev pub is_own : Schema → Bool
is_own m = same_text (json_name m) (name_of m)

-- so is each member, and the one at a position, where there is one
abbrev pub are_own : Schema → Bool
are_own schema = list_all is_own (members_of schema)

abbrev pub is_own_at : Schema → ℕ → Bool
is_own_at schema i = option_map_or is_own (member_at schema i) true

-- the map has this name
abbrev pub has : BTreeMap (String Global) ℕ → List ℕ → Bool
has positions name = is_some (get_by_text positions name)

-- one more name in the map, and that of a member, where there is one
abbrev pub HasName : List ℕ → (old new : BTreeMap (String Global) ℕ) → Type 0
HasName own old new = (name : List ℕ) → has new name ≡ (same_text own name || has old name)

abbrev pub HasNameOf : Option Schema → (old new : BTreeMap (String Global) ℕ) → Type 0
HasNameOf None old new = (name : List ℕ) → has new name ≡ has old name
HasNameOf (Some m) old new = HasName (json_name m) old new

-- the map has the names in JSON of the members
abbrev pub HasJsonNames : Schema → BTreeMap (String Global) ℕ → Type 0
HasJsonNames schema positions = (name : List ℕ) → has positions name ≡ is_one_of name (map json_name (members_of schema))

-- what is said of the node is so
abbrev pub Tells : Schema → NodeNames → Type 0
Tells schema Own = are_own schema ≡ true
Tells schema Few = ⊤
Tells schema (Mapped positions) = HasJsonNames schema positions

abbrev pub MayTell : Schema → Option NodeNames → Type 0
MayTell schema None = ⊤
MayTell schema (Some names) = Tells schema names

-- what a column says of each node of a table is so
abbrev pub Knows : {F : Type 0} → Column F NodeNames → Table → Type 0
Knows column t = (place : ℕ) (n : Schema) → at_place t place ≡ Some n → MayTell n (cell_at column place)

-- it is a fact: two proofs of it are one
tells_prop : (n : Schema) (names : Option NodeNames) → IsProp (MayTell n names)
tells_prop n None = Unit-prop
tells_prop n (Some Own) = Bool-set (are_own n) true
tells_prop n (Some Few) = Unit-prop
tells_prop n (Some (Mapped positions)) = λ x y i name. Bool-set (has positions name) (is_one_of name (map json_name (members_of n))) (x name) (y name) i

pub Knows-prop : {F : Type 0} (column : Column F NodeNames) (t : Table) → IsProp (Knows column t)
Knows-prop column t x y i place n at = tells_prop n (cell_at column place) (x place n at) (y place n at) i
