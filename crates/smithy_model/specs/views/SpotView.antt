-- What the code's spots stand for.
use Rattle.std.specs.Prelude.{ℕ, List, map}
use Rattle.smithy_model.specs.Nodes as nodes
use Rattle.smithy_model.specs.views.ModelView.{shape_view}
use Rattle.smithy_model.specs.declared.spots.Spot.{Spot}

abbrev pub spot_view : Spot → nodes.Spot
spot_view s = record { index = s.index; first = s.first; shape = shape_view s.shape.now }

abbrev pub names_at : List nodes.Spot → List (List ℕ)
names_at spots = map (λ s. s.shape.name) spots
