-- The node that a stored one is.
use Rattle.std.specs.Prelude.{◌≡◌, ℕ, List, map, Option, Some, None, option_map, MatchOption}
use Rattle.std.specs.Borrow.{Bor}
use Rattle.smithy_schema.specs.declared.stored.StoredMember.{StoredMember}
use Rattle.smithy_schema.specs.declared.stored.StoredMember.TheVariants.{Shape, Named, Indexed}
use Rattle.smithy_schema.specs.declared.stored_traits.StoredTraits.{StoredTraits}
use Rattle.smithy_schema.specs.declared.stored.FullDetails.{FullDetails}
use Rattle.smithy_schema.specs.declared.stored.StoredDetails.{StoredDetails}
use Rattle.smithy_schema.specs.declared.stored.StoredDetails.TheVariants.{Outline, Full}
use Rattle.smithy_schema.specs.declared.stored.Head.{Head}
use Rattle.smithy_schema.specs.declared.stored.StoredNode.{StoredNode}
use Rattle.smithy_schema.specs.views.Details.{Details, details_of, outlined}
use Rattle.smithy_schema.specs.views.Places.{place_of, places_of}
use Rattle.smithy_schema.specs.PreludeNodes.{IsBare}
use Rattle.smithy_schema.specs.views.StoredTraits.{traits_stored}
use Rattle.smithy_schema.specs.Nodes.{Node, bare_node, Table}

abbrev pub name_stored : StoredMember → Option (List ℕ)
name_stored Shape = None
name_stored (Named name) = Some name
name_stored (Indexed name index) = Some name

abbrev pub index_stored : StoredMember → Option ℕ
index_stored Shape = None
index_stored (Named name) = None
index_stored (Indexed name index) = Some index

abbrev pub details_full : FullDetails → Details
details_full d = record {
  original_name = d.original_name;
  target = place_of d.places.target;
  members = places_of d.members.items;
  element = place_of d.places.element;
  key = place_of d.places.key;
  value = place_of d.places.value;
  traits = traits_stored d.traits;
  has_no_body_members = d.no_body_members;
  hint = d.hint;
}

abbrev pub details_stored : StoredDetails → Details
details_stored (Outline format) = outlined format
details_stored (Full d) = details_full d.value

-- a node of which the head alone is known
abbrev pub head_stored : Head → Node
head_stored h = record (bare_node h.full_name h.shape_type) { member_name = name_stored h.membership; member_index = index_stored h.membership }

abbrev pub node_stored : StoredNode → Node
node_stored n = record {
  full_name = n.head.value.full_name;
  kind = n.head.value.shape_type;
  member_name = name_stored n.head.value.membership;
  original_name = (details_stored n.details).original_name;
  member_index = index_stored n.head.value.membership;
  target = (details_stored n.details).target;
  members = (details_stored n.details).members;
  element = (details_stored n.details).element;
  key = (details_stored n.details).key;
  value = (details_stored n.details).value;
  traits = (details_stored n.details).traits;
  has_no_body_members = (details_stored n.details).has_no_body_members;
  hint = (details_stored n.details).hint;
}

-- the node as it is kept, or a bare one where it isn't
abbrev pub ShowsNode : Node → Option (Bor StoredNode) → Type 0
ShowsNode node kept = MatchOption kept (IsBare node) (λ k. node ≡ node_stored k.now)

-- the node's details as they are kept in full, or a time format at most where they aren't
abbrev pub ShowsDetails : Node → Option (Bor FullDetails) → Type 0
ShowsDetails n kept = MatchOption kept (details_of n ≡ outlined n.traits.timestamp_format) (λ d. details_of n ≡ details_full d.now)

-- and its traits
abbrev pub ShowsTraits : Node → Option (Bor StoredTraits) → Type 0
ShowsTraits n kept = MatchOption kept (n.traits ≡ (outlined n.traits.timestamp_format).traits) (λ t. n.traits ≡ traits_stored t.now)

abbrev pub table_stored : List (Option StoredNode) → Table
table_stored nodes = map (option_map node_stored) nodes
