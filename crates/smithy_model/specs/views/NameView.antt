-- What the code's map from names to positions finds.
use Rattle.std.specs.Prelude.{◌≡◌, ℕ, ◌+◌, List, [], ◌∷◌, map, Option, Some, None, if◌then◌else◌}
use Rattle.std.specs.Borrow.{Bor}
use Rattle.std.specs.BTreeMap.{BTreeMap, get_by}
use Rattle.std.specs.Cmp.Lexicographic.{slice_cmp}
use Rattle.std.specs.Ordering.{nat_cmp}
use Rattle.smithy_model.specs.Names.{is}

abbrev pub texts : List (Bor (List ℕ)) → List (List ℕ)
texts names = map (λ t. t.now) names

-- what a map of borrowed names finds
abbrev pub found_in : BTreeMap (Bor (List ℕ)) ℕ → List ℕ → Option ℕ
found_in positions name = get_by (λ k. slice_cmp nat_cmp name k.now) positions

-- the position of the first of these names that is this one, where the first of all has that position
abbrev pub position_from : ℕ → List (List ℕ) → List ℕ → Option ℕ
position_from position [] name = None
position_from position (n ∷ ns) name = if is n name then Some position else position_from (position + 1) ns name

abbrev pub position_in : List (List ℕ) → List ℕ → Option ℕ
position_in names name = position_from 0 names name

-- the map has the position of each of these names, and no others
abbrev pub ArePositions : BTreeMap (Bor (List ℕ)) ℕ → List (List ℕ) → Type 0
ArePositions positions names = (name : List ℕ) → found_in positions name ≡ position_in names name
