-- The table of nodes of shapes: the members of all, each shape's behind those of the shape before it, then the shapes.
use Rattle.std.specs.Prelude.{ℕ, codes, ◌+◌, List, [], ◌∷◌, ◌++◌, length, map, find, Bool, true, false, ◌&&◌, ◌||◌, Option, Some, None, option_map, option_and_then, if◌then◌else◌}
use Rattle.std.specs.List.{list_all, list_any, range_with_len}
use Rattle.std.specs.Option.{option_or}
use Rattle.smithy_ids.specs.declared.shape_type.ShapeType.{ShapeType}
use Rattle.smithy_ids.specs.declared.shape_type.ShapeType.TheVariants as kind
use Rattle.smithy_ids.specs.declared.payload_hint.PayloadHint.{PayloadHint}
use Rattle.smithy_ids.specs.declared.payload_hint.PayloadHint.TheVariants.{Unknown, NoStructPayload, StructPayload}
use Rattle.smithy_ids.specs.declared.traits.TimestampFormat.{TimestampFormat}
use Rattle.smithy_schema.specs.Nodes.{Node, Schema, Traits, bare_node, binding_at, is_outside_body}
use Rattle.smithy_types.specs.Results.{each}
use Rattle.smithy_model.specs.Names.{is}
use Rattle.smithy_model.specs.Shapes.{Member, Shape}

-- where a shape stands: its own index, and that of its first member
pub record Spot : Type 0 where
  pub index : ℕ
  pub first : ℕ
  pub shape : Shape

abbrev pub member_count : List Shape → ℕ
member_count [] = 0
member_count (s ∷ ss) = length s.members + member_count ss

abbrev pub spots_from : ℕ → ℕ → List Shape → List Spot
spots_from first index [] = []
spots_from first index (s ∷ ss) = record { index = index; first = first; shape = s } ∷ spots_from (first + length s.members) (index + 1) ss

abbrev pub spots : List Shape → List Spot
spots shapes = spots_from 0 (member_count shapes) shapes

unfoldable pub spot_named : List Spot → List ℕ → Option Spot
spot_named spots name = find (λ s. is s.shape.name name) spots

-- the name of a shape, `$`, and the name of its member (Smithy, shape identifiers)
abbrev pub member_id : List ℕ → List ℕ → List ℕ
member_id shape name = shape ++ 36 ∷ name

-- where the element of a list stands, where its first member has this index
abbrev pub element_at : ShapeType → ℕ → Option ℕ
element_at kind.List first = Some first
element_at _ first = None

abbrev pub key_at : ShapeType → ℕ → Option ℕ
key_at kind.Map first = Some first
key_at _ first = None

abbrev pub value_at : ShapeType → ℕ → Option ℕ
value_at kind.Map first = Some (first + 1)
value_at _ first = None

abbrev pub is_structure : ShapeType → Bool
is_structure kind.Structure = true
is_structure kind.Union = true
is_structure _ = false

abbrev pub members_at : ShapeType → ℕ → ℕ → List ℕ
members_at k first count = if is_structure k then range_with_len first count else []

-- a node that cites what a shape of this kind holds, whose first member has this index
abbrev pub holding : ShapeType → ℕ → Node → Node
holding k first node = record node { element = element_at k first; key = key_at k first; value = value_at k first }

-- a node of this name for a shape at a spot
abbrev pub holding_node : List ℕ → Spot → Node
holding_node name spot = holding spot.shape.kind spot.first (bare_node name spot.shape.kind)

-- the format of an element of this kind, by its own traits and its target's, where it is a timestamp
abbrev pub element_format : ShapeType → Traits → Traits → Option TimestampFormat
element_format kind.Timestamp element target = option_or element.timestamp_format target.timestamp_format
element_format _ element target = None

-- the format of the elements, where they are timestamps
abbrev pub elements_format : List Spot → ShapeType → List Member → Option TimestampFormat
elements_format spots kind.List (element ∷ _) =
    option_and_then (λ spot. element_format spot.shape.kind element.traits spot.shape.traits) (spot_named spots element.target)
elements_format spots _ members = None

-- A member has what its target has of these four traits, and it has not; and of a list the format of its timestamps.
abbrev pub passed_traits : List Spot → Traits → Shape → Traits
passed_traits spots traits target =
    record traits {
      timestamp_format = option_or (option_or traits.timestamp_format target.traits.timestamp_format) (elements_format spots target.kind target.members);
      media_type = option_or traits.media_type target.traits.media_type;
      streaming = traits.streaming || target.traits.streaming;
      sensitive = traits.sensitive || target.traits.sensitive;
    }

-- a member of this full name at a position, of the shape at a spot, without its traits
abbrev pub bare_member : List ℕ → ℕ → List ℕ → Spot → Node
bare_member full_name position name spot =
    record (holding_node full_name spot) { member_name = Some name; member_index = Some position; target = Some spot.index }

-- the same with its traits
abbrev pub member_node : List Spot → List ℕ → ℕ → Member → Spot → Node
member_node spots full_name position m spot =
    record (bare_member full_name position m.name spot) { traits = passed_traits spots m.traits spot.shape }

-- the member of the shape of this name
abbrev pub member_of : List Spot → List ℕ → ℕ → Member → Spot → Node
member_of spots shape position m spot = member_node spots (member_id shape m.name) position m spot

abbrev pub member_nodes_from : List Spot → List ℕ → ℕ → List Member → Option (List Node)
member_nodes_from spots shape position [] = Some []
member_nodes_from spots shape position (m ∷ ms) =
    option_and_then (λ spot. option_map (λ nodes. member_of spots shape position m spot ∷ nodes) (member_nodes_from spots shape (position + 1) ms)) (spot_named spots m.target)

-- the members of all these shapes, none where a target is not there
abbrev pub member_nodes : List Spot → List Shape → Option (List Node)
member_nodes spots [] = Some []
member_nodes spots (s ∷ ss) =
    option_and_then (λ nodes. option_map (λ others. nodes ++ others) (member_nodes spots ss)) (member_nodes_from spots s.name 0 s.members)

-- a member with these traits stands outside the body of a request
abbrev pub is_outside : Traits → Bool
is_outside t =
    is_outside_body (binding_at t.http_header t.http_prefix_headers t.http_query t.http_query_params t.http_label t.http_payload)

abbrev pub are_outside : List Member → Bool
are_outside members = list_all (λ m. is_outside m.traits) members

abbrev pub is_of_structure : Option Spot → Bool
is_of_structure None = false
is_of_structure (Some spot) = is_structure spot.shape.kind

-- the member is a payload, and a structure or a union
abbrev pub is_structure_payload : List Spot → Member → Bool
is_structure_payload spots m = m.traits.http_payload && is_of_structure (spot_named spots m.target)

abbrev pub hint_of : List Spot → List Member → PayloadHint
hint_of spots members = if list_any (is_structure_payload spots) members then StructPayload else NoStructPayload

-- a structure or a union says whether each member stands outside the body, and whether a payload is one; another shape says neither
abbrev pub shape_node : List Spot → Spot → Node
shape_node spots spot =
    record (holding_node spot.shape.name spot) {
      members = members_at spot.shape.kind spot.first (length spot.shape.members);
      traits = spot.shape.traits;
      has_no_body_members = is_structure spot.shape.kind && are_outside spot.shape.members;
      hint = if is_structure spot.shape.kind then hint_of spots spot.shape.members else Unknown;
    }

-- the members of all these shapes, then the shapes
abbrev pub nodes_of : List Shape → Option (List Node)
nodes_of shapes = option_map (λ members. members ++ map (shape_node (spots shapes)) (spots shapes)) (member_nodes (spots shapes) shapes)

abbrev pub schema_with : List Node → Node → Schema
schema_with nodes node = record { table = map Some nodes; node = node }

-- the schema of the shape of this name
abbrev pub schema_named : List Node → List Spot → List ℕ → Option Schema
schema_named nodes spots name = option_map (λ spot. schema_with nodes (shape_node spots spot)) (spot_named spots name)

-- the node of values that have none of their own: that of the prelude's document (Smithy, prelude model)
abbrev pub natural_node : Node
natural_node = bare_node (codes "smithy.api#Document") kind.Document

-- The schema of the shape of this name, in the table of these shapes with the node of natural values behind them.
unfoldable pub schema_of : List Shape → List ℕ → Option Schema
schema_of shapes name = option_and_then (λ nodes. schema_named (nodes ++ natural_node ∷ []) (spots shapes) name) (nodes_of shapes)

-- the index of the shape of this name
abbrev pub index_named : List Spot → List ℕ → Option ℕ
index_named spots name = option_map (λ spot. spot.index) (spot_named spots name)

-- the errors of an operation, and those of its service
pub record Errors : Type 0 where
  pub operation : List Schema
  pub service : List Schema

abbrev pub schemas_named : List Shape → List (List ℕ) → List Node → Option (List Schema)
schemas_named shapes names nodes = each (schema_named nodes (spots shapes)) names

-- The schemas of the shapes of all these names, in one table.
unfoldable pub errors_of : List Shape → List (List ℕ) → List (List ℕ) → Option Errors
errors_of shapes operation service =
    option_and_then (λ nodes. option_and_then (λ os. option_map (λ ss. record { operation = os; service = ss }) (schemas_named shapes service nodes)) (schemas_named shapes operation nodes)) (nodes_of shapes)
