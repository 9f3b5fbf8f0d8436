use Rattle.std.proofs.Common.{◌*◌, ◌+◌}
use Rattle.smithy_types.specs.Documents.{nesting, items_nesting, members_nesting}
use Rattle.smithy_types.specs.DocumentView.{view, items_view, members_view}
use Rattle.smithy_recovery.proofs.InRange.{ItemsLeft, MembersLeft, items_from}
use Rattle.smithy_recovery.proofs.document_ranges.+document_in_range.Given as goal

-- arrays and objects count twice, so that a list counts between itself and its items

abbrev pub decreases-is_document_in_range : goal.decreases-is_document_in_range
decreases-is_document_in_range l = 2 * nesting (view l.document.now)

abbrev pub decreases-are_items_in_range : goal.decreases-are_items_in_range
decreases-are_items_in_range l = 2 * items_nesting (items_view l.documents.now) + 1

abbrev pub decreases-are_members_in_range : goal.decreases-are_members_in_range
decreases-are_members_in_range l = 2 * members_nesting (members_view l.members.now) + 1

abbrev pub invariant-are_items_in_range-items : goal.invariant-are_items_in_range-items
invariant-are_items_in_range-items l = ItemsLeft (items_from l.items l.item-index) (items_view l.documents)

abbrev pub invariant-are_members_in_range-members : goal.invariant-are_members_in_range-members
invariant-are_members_in_range-members l = MembersLeft l.name-iterator (members_view l.members)
