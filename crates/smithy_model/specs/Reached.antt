-- The shapes that are reached from some: their own, and those of the targets of their members, and so on.
use Rattle.std.specs.Prelude.{ℕ, zero, suc, ◌+◌, List, [], ◌∷◌, ◌++◌, length, map, slice_get, Bool, Option, Some, None, option_and_then, if◌then◌else◌}
use Rattle.std.specs.List.{list_any}
use Rattle.serde_json.specs.Data.{Data}
use Rattle.smithy_model.specs.Json.{members_in}
use Rattle.smithy_model.specs.Names.{is}
use Rattle.smithy_model.specs.Shapes.{Member, Shape, shape_at}
use Rattle.smithy_model.specs.Prelude.{prelude_kinds}

abbrev pub is_among : List (List ℕ) → List ℕ → Bool
is_among names name = list_any (λ n. is n name) names

-- the names with this one, each once
abbrev pub with_name : List (List ℕ) → List ℕ → List (List ℕ)
with_name names name = if is_among names name then names else names ++ name ∷ []

abbrev pub with_names : List (List ℕ) → List (List ℕ) → List (List ℕ)
with_names names [] = names
with_names names (name ∷ more) = with_names (with_name names name) more

-- the names with those of the members' targets
abbrev pub with_targets : List (List ℕ) → List Member → List (List ℕ)
with_targets names members = with_names names (map (λ m. m.target) members)

-- what the shape of the next name gives, and those found where there is no next name
abbrev pub reached_next : (Shape → Option (List Shape)) → Data → List Shape → Option (List ℕ) → Option (List Shape)
reached_next more shapes found None = Some found
reached_next more shapes found (Some name) = option_and_then more (shape_at shapes name)

-- The shapes of all these names and of those that are met from there, in the order in which they are met; the first names' shapes are found.
abbrev pub reached_in : ℕ → Data → List Shape → List (List ℕ) → Option (List Shape)
reached_in zero shapes found names = None
reached_in (suc steps) shapes found names =
    reached_next (λ s. reached_in steps shapes (found ++ s ∷ []) (with_targets names s.members)) shapes found (slice_get names (length found))

abbrev pub names_of : List Shape → List (List ℕ)
names_of shapes = map (λ s. s.name) shapes

-- The shapes that are reached from these names. Each step finds a further shape of the model or the prelude, so that as many steps as
-- both have shapes, and one more, which finds nothing left, are enough.
unfoldable pub reached : Data → List (List ℕ) → Option (List Shape)
reached shapes names =
    option_and_then (λ entries. reached_in (suc (length entries + length prelude_kinds)) shapes [] (with_names [] names)) (members_in shapes)
