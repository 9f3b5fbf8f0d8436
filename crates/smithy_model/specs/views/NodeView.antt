-- Nodes as the code indexes them.
use Rattle.std.specs.Prelude.{◌≡◌, ℕ, ◌+◌, List, [], ◌∷◌, ◌++◌, option_map, length, map, replicate, Option, Some, None, Result, Ok, Err, OnOk}
use Rattle.std.specs.Borrow.{Bor}
use Rattle.smithy_types.specs.Results.{each}
use Rattle.smithy_ids.specs.ShapeIdParts.{parts_of}
use Rattle.smithy_ids.specs.declared.shape_id.ShapeId.{ShapeId}
use Rattle.smithy_schema.specs.Nodes.{Node, Table, Traits}
use Rattle.smithy_model.specs.Shapes.{Shape}
use Rattle.smithy_model.specs.Nodes as nodes
use Rattle.smithy_model.specs.views.ModelView.{member_view, shape_view, traits_view}
use Rattle.smithy_model.specs.views.NameView.{texts}
use Rattle.smithy_model.specs.views.SpotView.{spot_view}
use Rattle.smithy_model.specs.declared.error.JobError.{JobError}
use Rattle.smithy_model.specs.declared.error.JobError.TheVariants.{NoJob, OutOfMemory}
use Rattle.smithy_model.specs.declared.shape.Member.{Member}
use Rattle.smithy_model.specs.declared.shape.Shape as code
use Rattle.smithy_model.specs.declared.shape.ShapeTraits.{ShapeTraits}
use Rattle.smithy_model.specs.declared.spots.Spot.{Spot}
use Rattle.smithy_model.specs.declared.spots.SpotMap.{SpotMap}

abbrev pub spots_of : SpotMap → List nodes.Spot
spots_of m = map spot_view m.spots.items

-- the map has the spots of these shapes, and the index of the first of them
pub record AreSpots (spots : SpotMap) (shapes : List Shape) : Type 0 where
  pub are : spots_of spots ≡ nodes.spots shapes
  pub first : spots.first ≡ nodes.member_count shapes

-- the node of a member of the shape of this name, of the shape at a spot
abbrev pub node_of : SpotMap → List ℕ → ℕ → Member → Spot → Node
node_of spots shape position member spot = nodes.member_of (spots_of spots) shape position (member_view member) (spot_view spot)

-- the same without its traits, by its identifier
abbrev pub bare_member_at : ShapeId → ℕ → List ℕ → Spot → Node
bare_member_at id position name spot = nodes.bare_member (parts_of id).full_name position name (spot_view spot)

-- the node of the shape at a spot
abbrev pub shape_at : SpotMap → Spot → Node
shape_at spots spot = nodes.shape_node (spots_of spots) (spot_view spot)

-- the traits of a member with this target, with those that are passed on to it
abbrev pub traits_passed : SpotMap → ShapeTraits → code.Shape → Traits
traits_passed spots own target = nodes.passed_traits (spots_of spots) (traits_view own) (shape_view target)

-- the nodes of a shape's members, of the members of all shapes, and of the shapes
abbrev pub nodes_of_members : SpotMap → List ℕ → List Member → Option (List Node)
nodes_of_members spots shape members = nodes.member_nodes_from (spots_of spots) shape 0 (map member_view members)

abbrev pub nodes_of_all_members : SpotMap → List code.Shape → Option (List Node)
nodes_of_all_members spots shapes = nodes.member_nodes (spots_of spots) (map shape_view shapes)

abbrev pub nodes_of_shapes : SpotMap → List Node
nodes_of_shapes spots = map (nodes.shape_node (spots_of spots)) (spots_of spots)

-- where the shapes of these names stand
abbrev pub indexes_named : SpotMap → List (Bor (List ℕ)) → Option (List ℕ)
indexes_named spots names = each (nodes.index_named (spots_of spots)) (texts names)

-- these nodes, and indexes that are only declared
abbrev pub filled : List Node → ℕ → Table
filled done holes = map Some done ++ replicate holes None

-- the indexes from this one got these nodes
abbrev pub IsFilledBy : ℕ → List Node → Table → Table → Type 0
IsFilledBy next nodes before after =
    (done : List Node) (holes : ℕ) → length done ≡ next → before ≡ filled done (length nodes + holes) → after ≡ filled (done ++ nodes) holes

-- where there was memory, one of them got this node
abbrev pub Sets : {A E : Type 0} → ℕ → Node → Table → Table → Result A E → Type 0
Sets index node before after result = OnOk result (IsFilledBy index (node ∷ []) before after)

-- the table of these shapes, with so many indexes behind them that are only declared
abbrev pub table_with : List Shape → ℕ → Option Table
table_with shapes further = option_map (λ ns. filled ns further) (nodes.nodes_of shapes)

-- there are such nodes
abbrev pub IsFilled : ℕ → Table → Table → Option (List Node) → Type 0
IsFilled next before after (Some nodes) = IsFilledBy next nodes before after
IsFilled next before after None = ⊥

-- the indexes from this one got the nodes that there are, and it is refused exactly where there are none; want of memory is free
abbrev pub Fills : {A : Type 0} → ℕ → Table → Table → Option (List Node) → Result A JobError → Type 0
Fills next before after nodes (Ok a) = IsFilled next before after nodes
Fills next before after nodes (Err NoJob) = nodes ≡ None
Fills next before after nodes (Err OutOfMemory) = Unit {0}
