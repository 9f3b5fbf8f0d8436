-- Ordered maps from texts: the list of their pairs, in byte order of the keys.
use Rattle.std.specs.Prelude.{ℕ, List, [], ◌∷◌, Option, Some, None, if◌then◌else◌}
use Rattle.std.specs.Cmp.Lexicographic.{slice_cmp}
use Rattle.std.specs.List.Sorted.{IsStrictlySortedBy}
use Rattle.std.specs.Map.{keys_of}
use Rattle.std.specs.Option.{option_or}
use Rattle.std.specs.Ordering.{nat_cmp, match_ordering}
use Rattle.smithy_types.specs.Texts.{same_text}

-- the pairs with this value at the key, which stands at its place in byte order
abbrev pub with_value : {X : Type 0} → List ℕ → X → List (List ℕ × X) → List (List ℕ × X)
with_value key value [] = (key, value) ∷ []
with_value key value (p ∷ ps) =
    match_ordering (slice_cmp nat_cmp key p.0) ((key, value) ∷ p ∷ ps) ((p.0, value) ∷ ps) (p ∷ with_value key value ps)

-- each pair put in byte order of the names, in place of one with its name, the first one first
abbrev pub all_put : {X : Type 0} → List (List ℕ × X) → List (List ℕ × X) → List (List ℕ × X)
all_put [] sorted = sorted
all_put (e ∷ es) sorted = all_put es (with_value e.0 e.1 sorted)

-- the last value of this name
abbrev pub last_named : {X : Type 0} → List ℕ → List (List ℕ × X) → Option X
last_named name [] = None
last_named name (f ∷ fields) = option_or (last_named name fields) (if same_text f.0 name then Some f.1 else None)

-- the keys ascend in byte order, and no key stands twice
abbrev pub IsOrdered : {X : Type 0} → List (List ℕ × X) → Type 0
IsOrdered pairs = IsStrictlySortedBy (slice_cmp nat_cmp) (keys_of pairs)
