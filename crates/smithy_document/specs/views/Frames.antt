-- A list that is open, as it is held.
use Rattle.std.specs.Prelude.{ℕ, List, Option, Result}
use Rattle.smithy_document.specs.Words.{Group}
use Rattle.smithy_types.specs.Results.{then_try}
use Rattle.smithy_document.specs.declared.frame.Frame.{Frame}
use Rattle.smithy_document.specs.Building.{is_structure_group, Building, put_named, finished}
use Rattle.smithy_document.specs.views.BuildingView.{building_view}

-- its node's names, its group, and what stood before it in its list
pub record Held : Type 0 where
  pub name : Option (List ℕ)
  pub full_name : List ℕ
  pub group : Group
  pub before : Building

-- what is held of it in code
abbrev pub held_of : Frame → Held
held_of f = record { name = f.names.name; full_name = f.names.full_name; group = f.kind; before = building_view f.before }

-- what the list around has come to where a list in it ends
abbrev pub ended_with : Building → Held → Result Building (List ℕ)
ended_with b h = then_try (finished b) (λ d. put_named h.name h.full_name (is_structure_group h.group) d h.before)
