-- Data whose objects have their names in byte order, each once.
use Rattle.std.specs.Prelude.{ℕ, List, Bool, true, false, ◌&&◌}
use Rattle.std.specs.Cmp.Lexicographic.{slice_cmp}
use Rattle.std.specs.Ordering.{nat_cmp, match_ordering}
use Rattle.serde_json.specs.Data.{Data, null, boolean, number, string, array, object, Items, no_items, item, Members, no_members, member}

-- the name stands before the first of these, in byte order
abbrev pub is_before : List ℕ → Members → Bool
is_before name no_members = true
is_before name (member other d ms) = match_ordering (slice_cmp nat_cmp name other) true false false

-- in each object each name stands before the next
abbrev mutual
  pub is_ordered : Data → Bool
  is_ordered null = true
  is_ordered (boolean b) = true
  is_ordered (number n) = true
  is_ordered (string s) = true
  is_ordered (array ds) = are_items_ordered ds
  is_ordered (object ms) = are_members_ordered ms

  pub are_items_ordered : Items → Bool
  are_items_ordered no_items = true
  are_items_ordered (item d ds) = is_ordered d && are_items_ordered ds

  pub are_members_ordered : Members → Bool
  are_members_ordered no_members = true
  are_members_ordered (member k d ms) = is_before k ms && is_ordered d && are_members_ordered ms
