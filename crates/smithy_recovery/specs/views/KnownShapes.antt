-- Shapes whose members have each name once, by their places.
use Rattle.std.specs.Prelude.{◌≡◌, ℕ, Bool, true, Some, filter_map}
use Rattle.std.specs.BTreeSet.{BTreeSet, contains}
use Rattle.std.specs.Ordering.{nat_cmp}
use Rattle.smithy_types.specs.Texts.{are_distinct}
use Rattle.smithy_schema.specs.Nodes.{Schema, Table, at_place, members_of}

-- no two members of a shape have one name
abbrev pub has_distinct_members : Schema → Bool
has_distinct_members s = are_distinct (filter_map (λ m. m.node.member_name) (members_of s))

-- the shape at each of these places is such a one
unfoldable pub AreKnown : Table → BTreeSet ℕ → Type 0
AreKnown t known = (place : ℕ) (s : Schema) → contains nat_cmp known place ≡ true → at_place t place ≡ Some s → has_distinct_members s ≡ true
