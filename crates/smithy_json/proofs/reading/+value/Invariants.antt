use Rattle.std.proofs.Common.{◌≡◌, IsTrue, ◌+◌, ◌*◌, ◌≤◌, length}
use Rattle.json.specs.Json.{parse_map}
use Rattle.serde_json.specs.Data.{no_members}
use Rattle.smithy_types.specs.Maps.{IsOrdered}
use Rattle.smithy_json.specs.views.JsonView.{items_view, entries}
use Rattle.smithy_json.specs.PutMembers.{put_all}
use Rattle.smithy_json.specs.Tokens.{items_at, members_at}
use Rattle.smithy_json.proofs.ReadingLemmas.{joined}
use Rattle.smithy_json.proofs.reading.+value.Given as goal

-- each container that is opened takes one from the depth, and its values come after it
abbrev pub decreases-value_from : goal.decreases-value_from
decreases-value_from l = 2 * l.depth

abbrev pub decreases-items_from : goal.decreases-items_from
decreases-items_from l = 2 * l.depth + 1

abbrev pub decreases-members_from : goal.decreases-members_from
decreases-members_from l = 2 * l.depth + 1

-- the items that were read and those to come are all of them
abbrev pub invariant-items_from-more : goal.invariant-items_from-more
invariant-items_from-more l =
    (length l.reader ≤ length l.initial.reader)
    × (items_at l.depth l.initial.reader ≡ parse_map (joined (items_view l.found.items)) (items_at l.depth l.reader))

abbrev pub decreases-items_from-more : goal.decreases-items_from-more
decreases-items_from-more l = length l.reader

abbrev pub invariant-members_from-more : goal.invariant-members_from-more
invariant-members_from-more l =
    (length l.reader ≤ length l.initial.reader)
    × (members_at l.depth no_members l.initial.reader ≡ members_at l.depth (put_all (entries l.found.items) no_members) l.reader)
    × (IsTrue l.are_ordered → IsOrdered (entries l.found.items))

abbrev pub decreases-members_from-more : goal.decreases-members_from-more
decreases-members_from-more l = length l.reader
