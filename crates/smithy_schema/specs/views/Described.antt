-- The node that a description is.
use Rattle.std.specs.Prelude.{ℕ, List, [], Option, Some, None}
use Rattle.smithy_ids.specs.declared.shape_id.ShapeId.{ShapeId}
use Rattle.smithy_ids.specs.declared.shape_type.ShapeType.{ShapeType}
use Rattle.smithy_ids.specs.ShapeIdParts.{parts_of}
use Rattle.smithy_schema.specs.declared.schema.Schema.TheInside.{Inside}
use Rattle.smithy_schema.specs.declared.schema.Membership.{Membership}
use Rattle.smithy_schema.specs.declared.schema.Membership.TheVariants.{Shape, Named, Indexed}
use Rattle.smithy_schema.specs.views.DescribedTraits.{text_of, traits_with}
use Rattle.smithy_schema.specs.views.Places.{place_of, places_of}
use Rattle.smithy_schema.specs.Nodes.{Node, bare_node}

abbrev pub name_in : Membership → Option (List ℕ)
name_in Shape = None
name_in (Named name) = Some name.now
name_in (Indexed name index) = Some name.now

abbrev pub index_in : Membership → Option ℕ
index_in Shape = None
index_in (Named name) = None
index_in (Indexed name index) = Some index

-- the node of this identifier and kind, with nothing else
abbrev pub bare_by : ShapeId → ShapeType → Node
bare_by id kind = bare_node (parts_of id).full_name kind

-- the member of this identifier, kind, name and index, with nothing else
abbrev pub member_by : ShapeId → ShapeType → List ℕ → ℕ → Node
member_by id kind name index = record (bare_by id kind) { member_name = Some name; member_index = Some index }

-- keys and values in the place of members, element, key and value
abbrev pub with_map : ℕ → ℕ → Node → Node
with_map key value n = record n { members = []; element = None; key = Some key; value = Some value }

-- elements in the place of members, element, key and value
abbrev pub with_list : ℕ → Node → Node
with_list element n = record n { members = []; element = Some element; key = None; value = None }

abbrev pub node_described : Inside → Node
node_described a = record {
  full_name = a.id.full_name.now;
  kind = a.shape_type;
  member_name = name_in a.membership;
  original_name = text_of a.original_name;
  member_index = index_in a.membership;
  target = place_of a.places.target;
  members = places_of a.members.now;
  element = place_of a.places.element;
  key = place_of a.places.key;
  value = place_of a.places.value;
  traits = traits_with a.traits a.others;
  has_no_body_members = a.no_body_members;
  hint = a.hint;
}
