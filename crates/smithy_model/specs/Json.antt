-- Going over arrays and objects of JSON.
use Rattle.std.specs.Prelude.{ℕ, List, [], ◌∷◌, Bool, Option, None, option_map, option_and_then, if◌then◌else◌}
use Rattle.serde_json.specs.Data.{Data, Items, no_items, item, Members, no_members, member}
use Rattle.serde_json.specs.Find.{get, as_str, as_array, as_object}

abbrev pub listed : Items → List Data
listed no_items = []
listed (item d ds) = d ∷ listed ds

abbrev pub entries : Members → List (List ℕ × Data)
entries no_members = []
entries (member k d ms) = (k, d) ∷ entries ms

-- the items of an array
abbrev pub items_in : Data → Option (List Data)
items_in d = option_map listed (as_array d)

-- the members of an object, in byte order of their names
abbrev pub members_in : Data → Option (List (List ℕ × Data))
members_in d = option_map entries (as_object d)

-- the text under a key
abbrev pub text_at : List ℕ → Data → Option (List ℕ)
text_at key d = option_and_then as_str (get key d)

-- the value where the test holds
abbrev pub provided : {A : Type 0} → Bool → Option A → Option A
provided b o = if b then o else None
