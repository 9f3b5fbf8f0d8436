-- Which nodes a table takes, and what it then keeps.
use Rattle.std.specs.Prelude.{◌≡◌, ℕ, ◌+◌, Bool, true, false, ◌&&◌, ◌==◌, nat_lt, List, [], ◌∷◌, ◌++◌, length, slice_get, is_some, is_none, Option, Some, None, Result, Err, MatchOption, IsOkUnless}
use Rattle.std.specs.List.{list_all}
use Rattle.std.specs.Option.{option_map_or, option_or}
use Rattle.smithy_types.specs.Results.{first_of_all, unless}
use Rattle.smithy_schema.specs.declared.error.SchemaError.{SchemaError}
use Rattle.smithy_schema.specs.declared.error.SchemaError.TheVariants.{Order, NotMember, Unknown, Defined, OutOfMemory}
use Rattle.smithy_schema.specs.Nodes.{Node, Table, Schema, node_at}
use Rattle.smithy_schema.specs.WellMade.{is_whole}

-- the place is declared among the first n, where there is one
abbrev pub is_declared : ℕ → Option ℕ → Bool
is_declared n place = option_map_or (λ i. nat_lt i n) place true

-- each place that the node cites is declared among the first n
abbrev pub has_declared_places : ℕ → Node → Bool
has_declared_places n node =
    list_all (λ i. nat_lt i n) node.members && is_declared n node.target && is_declared n node.element && is_declared n node.key && is_declared n node.value

-- the fault of a node as the member at a position
abbrev pub position_fault : ℕ → Option ℕ → Option SchemaError
position_fault position None = Some NotMember
position_fault position (Some index) = unless (index == position) Order

-- a place that holds no node has no index
abbrev pub index_at : Option Node → Option ℕ
index_at None = None
index_at (Some node) = node.member_index

abbrev pub member_fault : Table → ℕ → ℕ → Option SchemaError
member_fault table position place = position_fault position (index_at (node_at table place))

-- the first fault of the members, whose first one stands at this position
abbrev pub members_fault : Table → ℕ → List ℕ → Option SchemaError
members_fault table position [] = None
members_fault table position (place ∷ places) = option_or (member_fault table position place) (members_fault table (position + 1) places)

-- the first fault of what the node cites, where the first n places are declared
unfoldable pub citing_fault : Table → ℕ → Node → Option SchemaError
citing_fault table n node = option_or (unless (has_declared_places n node) Unknown) (members_fault table 0 node.members)

-- the first fault of defining a place as this node
unfoldable pub define_fault : Table → ℕ → Node → Option SchemaError
define_fault table index node =
    first_of_all (
    unless (nat_lt index (length table)) Unknown
    ∷ unless (is_none (node_at table index)) Defined
    ∷ citing_fault table (length table) node
    ∷ [])

-- refused with this fault, or else for want of memory alone
abbrev pub RefusesBy : {A : Type 0} → Option SchemaError → Result A SchemaError → Type 0
RefusesBy fault result = MatchOption fault (IsOkUnless result OutOfMemory) (λ f. result ≡ Err f)

-- the table with one more place, which is only declared
abbrev pub declared_more : Table → Table
declared_more table = table ++ None ∷ []

-- the place holds a member with this index and a name
abbrev pub is_member : Option Node → ℕ → Bool
is_member None index = false
is_member (Some node) index = option_map_or (λ i. i == index) node.member_index false && is_some node.member_name

-- What each table keeps: each node is whole, and at each position of a node's members stands a member with that index and a name.
pub record IsSound (table : Table) : Type 0 where
  pub whole : (place : ℕ) (node : Node) → node_at table place ≡ Some node → is_whole node ≡ true
  pub members : (place : ℕ) (node : Node) → node_at table place ≡ Some node → (position : ℕ) (member : ℕ) → slice_get node.members position ≡ Some member → is_member (node_at table member) position ≡ true

-- at each position of the schema's members stands a member with that index and a name
abbrev pub HasMembersInPlace : Schema → Type 0
HasMembersInPlace schema = (position : ℕ) (member : ℕ) → slice_get schema.node.members position ≡ Some member → is_member (node_at schema.table member) position ≡ true
