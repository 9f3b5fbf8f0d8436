-- How headers are kept: as pairs, with what is known of the places of names as long as each stands once.
use Rattle.std.specs.Prelude.{◌≡◌, ◌≤◌, ℕ, length, take, Bool, not, List, [], ◌∷◌, ◌++◌, Option, Some, None, Result, Ok, Err, filter, map, position, String, string_bytes, MatchOption}
use Rattle.std.specs.Borrow.{Bor}
use Rattle.std.specs.Global.{Global}
use Rattle.std.specs.BTreeMap.{BTreeMap, get_by_text}
use Rattle.std.specs.Cmp.Lexicographic.{slice_cmp}
use Rattle.std.specs.List.{AllByRecursion}
use Rattle.std.specs.List.Sorted.{IsStrictlySortedBy}
use Rattle.std.specs.Ordering.{nat_cmp}
use Rattle.std.specs.declared.cmp.Ordering.TheVariants.{Less}
use Rattle.smithy_types.specs.Texts.{same_text}
use Rattle.smithy_http.specs.declared.pairs.Pair.{Pair}
use Rattle.smithy_http.specs.declared.pairs.Places.{Places}
use Rattle.smithy_http.specs.declared.pairs.Places.TheVariants as kept
use Rattle.smithy_http.specs.Facts.{values_of_name}

-- the name and the value
abbrev pub pair_of : Pair → List ℕ × List ℕ
pair_of p = (string_bytes p.name, p.value)

-- the name
abbrev pub name_of : Pair → List ℕ
name_of p = string_bytes p.name

-- the pairs as a request has them
abbrev pub shown : List Pair → List (List ℕ × List ℕ)
shown pairs = map pair_of pairs

-- the values of a name in any case
abbrev pub values_among : List ℕ → List Pair → List (List ℕ)
values_among name pairs = values_of_name name (shown pairs)

-- the first value of a name and the pairs behind it, or none where it has no value
abbrev pub TakesFirst : List ℕ → List Pair → Option (Bor (List ℕ) × Bor (List Pair)) → Type 0
TakesFirst name pairs taken =
    MatchOption taken (values_among name pairs ≡ []) (λ t. values_among name pairs ≡ t.0.now ∷ values_among name t.1.now)

-- the pair has this name
abbrev pub is_named : List ℕ → Pair → Bool
is_named name p = same_text (string_bytes p.name) name

-- the pairs of other names
abbrev pub named_otherwise : List ℕ → List Pair → List Pair
named_otherwise name pairs = filter (λ p. not (is_named name p)) pairs

-- the first place of a name among names
abbrev pub place_of : List ℕ → List (List ℕ) → Option ℕ
place_of name names = position (λ n. same_text n name) names

-- each name stands once
abbrev pub AreApart : List (List ℕ) → Type 0
AreApart [] = Unit {0}
AreApart (name ∷ names) = (place_of name names ≡ None) × AreApart names

-- the map has the place of each name, and each stands once
pub record IsIndex (places : BTreeMap (String Global) ℕ) (names : List (List ℕ)) : Type 0 where
  pub at : (name : List ℕ) → get_by_text places name ≡ place_of name names
  pub apart : AreApart names

-- each name stands before those behind it in byte order
abbrev pub Rise : List (List ℕ) → Type 0
Rise names = IsStrictlySortedBy (slice_cmp nat_cmp) names

-- the name stands behind each of these in byte order
abbrev pub IsBehind : List ℕ → List (List ℕ) → Type 0
IsBehind name names = AllByRecursion (λ n. slice_cmp nat_cmp n name ≡ Less) names

-- so many names from the first one on rise, and of all each stands once
pub record RiseTo (count : ℕ) (names : List (List ℕ)) : Type 0 where
  pub within : count ≤ length names
  pub rise : Rise (take count names)
  pub apart : AreApart names

-- what is kept of the places of names holds
abbrev pub ArePlaces : Places → List (List ℕ) → Type 0
ArePlaces kept.Searched names = Unit {0}
ArePlaces (kept.Rising count) names = RiseTo count names
ArePlaces (kept.Mapped places) names = IsIndex places names

-- the place of a name is told; a new name has got the one behind the pairs, and what is kept is of the names with it
abbrev pub GetsPlace : List ℕ → List Pair → (List (List ℕ) → Type 0) → Option ℕ → Type 0
GetsPlace name pairs Keeps None = (position (is_named name) pairs ≡ None) × Keeps (map name_of pairs ++ name ∷ [])
GetsPlace name pairs Keeps (Some place) = (position (is_named name) pairs ≡ Some place) × Keeps (map name_of pairs)

-- the same, where it may be refused
abbrev pub Claims : {E : Type 0} → List ℕ → List Pair → (List (List ℕ) → Type 0) → Result (Option ℕ) E → Type 0
Claims name pairs Keeps (Ok place) = GetsPlace name pairs Keeps place
Claims name pairs Keeps (Err e) = Keeps (map name_of pairs)
