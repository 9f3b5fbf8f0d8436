-- What a table keeps beside the nodes that it is seen as.
use Rattle.std.specs.Prelude.{◌≡◌, ℕ, List, slice_get, Option, Some}
use Rattle.std.specs.Option.{option_flatten}
use Rattle.smithy_schema.specs.declared.parts.SchemaIndex.{SchemaIndex}
use Rattle.smithy_schema.specs.declared.stored.FullDetails.{FullDetails}
use Rattle.smithy_schema.specs.declared.stored.StoredDetails.{StoredDetails}
use Rattle.smithy_schema.specs.declared.stored.StoredDetails.TheVariants.{Outline, Full}
use Rattle.smithy_schema.specs.declared.stored.StoredNode.{StoredNode}
use Rattle.smithy_schema.specs.Nodes.{Table}
use Rattle.smithy_schema.specs.views.Places.{places_of}
use Rattle.smithy_schema.specs.views.Stored.{table_stored}
use Rattle.smithy_schema.specs.Defining.{IsSound}
use Rattle.smithy_schema.specs.Routing.{bound_among, word_of}
use Rattle.smithy_schema.specs.views.MemberNames.{FindsNames, IsLead}

-- the node that is kept at a place; a hole counts as none
abbrev pub kept_at : List (Option StoredNode) → ℕ → Option StoredNode
kept_at nodes place = option_flatten (slice_get nodes place)

-- of the members is kept how they are found by their names, and the routing word
pub record KeepsMembers (table : Table) (d : FullDetails) : Type 0 where
  pub names : FindsNames table (places_of d.members.items) d.names
  pub routing : d.routing ≡ word_of (bound_among table (places_of d.members.items))

-- the place is that of a member that a name is looked for at first
abbrev pub IsFollower : FullDetails → SchemaIndex → Type 0
IsFollower d place = (position : ℕ) × IsLead d.names position × (slice_get d.members.items position ≡ Some place)

-- so is what they have; an outline has no members
abbrev pub HasMembers : Table → StoredDetails → Type 0
HasMembers table (Outline format) = Unit {0}
HasMembers table (Full d) = KeepsMembers table d.value

-- The table is sound, and each node has what is kept of its members.
pub record IsKept (nodes : List (Option StoredNode)) : Type 0 where
  pub sound : IsSound (table_stored nodes)
  pub members : (place : ℕ) (n : StoredNode) → kept_at nodes place ≡ Some n → HasMembers (table_stored nodes) n.details
