-- Members of an object, as they are added to others.
use Rattle.std.specs.Prelude.{◌≡◌, ℕ, List, length, Err}
use Rattle.serde_json.specs.Data.{Data, Members, no_members, put}
use Rattle.smithy_types.specs.Maps.{IsOrdered}
use Rattle.smithy_json.specs.PutMembers.{put_all, place_of}
use Rattle.smithy_json.specs.views.JsonView.{Member, members_view, entries}

-- the object into which these members are put in turn
abbrev pub all_put : List Member → Members
all_put ms = put_all (entries ms) no_members

-- the members that come after hold one member more than those before, wherever it stands
abbrev pub Adds : List ℕ → Data → List Member → List Member → Type 0
Adds name d before after = all_put after ≡ put name d (all_put before)

-- it was put at its place among them
abbrev pub Puts : List ℕ → Data → List Member → List Member → Type 0
Puts name d before after = members_view after ≡ put name d (members_view before)

-- where they stand in order, the name belongs behind the last one
abbrev pub BelongsLast : List ℕ → List Member → Type 0
BelongsLast name ms = IsOrdered (entries ms) → place_of name (entries ms) ≡ Err (length ms)
