-- How a registry is kept: its entries by their full names, and the least full name of each shape name.
use Rattle.std.specs.Prelude.{◌≡◌, ℕ, Bool, true, false, List, [], ◌∷◌, map, Option, Some, None, option_map, String, string_bytes, if◌then◌else◌}
use Rattle.std.specs.Cmp.Lexicographic.{slice_cmp}
use Rattle.std.specs.Global.{Global}
use Rattle.std.specs.BTreeMap.{BTreeMap, get_by_text}
use Rattle.std.specs.List.{AllByRecursion}
use Rattle.std.specs.Option.{option_map_or}
use Rattle.std.specs.Ordering.{is_le, nat_cmp}
use Rattle.smithy_ids.specs.ShapeIds.{has_hash}
use Rattle.smithy_types.specs.Maps.{with_value}
use Rattle.smithy_registry.specs.Registries.{has_shape_name, shape_name_in}

-- the least full name of each shape name
abbrev pub Names : Type 0
Names = BTreeMap (String Global) (String Global)

-- the full name that is kept for a shape name
abbrev pub kept_name : Names → List ℕ → Option (List ℕ)
kept_name names shape_name = option_map string_bytes (get_by_text names shape_name)

-- whether a name that is kept is not above this one, in byte order
abbrev pub is_not_above : List ℕ → List ℕ → Bool
is_not_above name kept = is_le (slice_cmp nat_cmp kept name)

-- the lesser of a name and the one that is kept, if one is
abbrev pub least_of : List ℕ → Option (List ℕ) → List ℕ
least_of name None = name
least_of name (Some kept) = if is_not_above name kept then kept else name

-- what is to be kept of one more name: nothing where one that is not above it is kept, else its shape name and itself
abbrev pub IsToKeep : Names → List ℕ → Option (String Global × String Global) → Type 0
IsToKeep names name None = option_map_or (is_not_above name) (kept_name names (shape_name_in name)) false ≡ true
IsToKeep names name (Some p) =
    (option_map_or (is_not_above name) (kept_name names (shape_name_in name)) false ≡ false) × (string_bytes p.0 ≡ shape_name_in name) × (string_bytes p.1 ≡ name)

module _ {X : Type 0} where
  -- the entries of a map as a list of full names with what stands under them
  abbrev pub entries_kept : List (String Global × X) → List (List ℕ × X)
  entries_kept es = map (λ e. (string_bytes e.0, e.1)) es

  -- with one more, in place of one under its name
  abbrev pub entries_with : String Global → X → List (String Global × X) → List (List ℕ × X)
  entries_with name entry es = with_value (string_bytes name) entry (entries_kept es)

  -- each name is that of a shape or of a member of one
  abbrev pub AreNames : List (List ℕ × X) → Type 0
  AreNames entries = AllByRecursion (λ e. has_hash e.0 ≡ true) entries

  -- the first full name that has this shape name
  abbrev pub least_name : List ℕ → List (List ℕ × X) → Option (List ℕ)
  least_name shape_name [] = None
  least_name shape_name (e ∷ es) = if has_shape_name shape_name e.0 then Some e.0 else least_name shape_name es

  -- the names are those of shapes, and the least one of each shape name is kept
  pub record IsKept (entries : List (List ℕ × X)) (names : Names) : Type 0 where
    pub shapes : AreNames entries
    pub least : (shape_name : List ℕ) → kept_name names shape_name ≡ least_name shape_name entries
