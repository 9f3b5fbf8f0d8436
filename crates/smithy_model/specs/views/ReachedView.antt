-- What the code keeps of the shapes that it reached.
use Rattle.std.specs.Prelude.{◌≡◌, ℕ, List, true, map}
use Rattle.std.specs.Borrow.{Bor}
use Rattle.std.specs.List.{list_all}
use Rattle.smithy_ids.specs.ShapeIds.{has_hash}
use Rattle.smithy_model.specs.Reached.{names_of, with_targets}
use Rattle.smithy_model.specs.Shapes.{Shape}
use Rattle.smithy_model.specs.views.ModelView.{member_view, shape_view}
use Rattle.smithy_model.specs.views.NameView.{texts, ArePositions}
use Rattle.smithy_model.specs.declared.shape.Member.{Member}
use Rattle.smithy_model.specs.declared.reached.Reached.{Reached}

-- the shapes as they are described
abbrev pub shapes_of : Reached → List Shape
shapes_of reached = map shape_view reached.shapes.items

-- these names, and those of the members' targets that are not among them
abbrev pub and_targets : List (Bor (List ℕ)) → List Member → List (List ℕ)
and_targets names members = with_targets (texts names) (map member_view members)

-- each shape has its position in the map and a `#` in its name
pub record IsWhole (reached : Reached) : Type 0 where
  pub located : ArePositions reached.positions (names_of (shapes_of reached))
  pub named : list_all (λ s. has_hash s.name) (shapes_of reached) ≡ true
