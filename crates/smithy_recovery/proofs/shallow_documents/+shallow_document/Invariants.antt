use Rattle.std.proofs.Common.{◌*◌, ◌+◌}
use Rattle.smithy_types.specs.Documents.{nesting, items_nesting, members_nesting}
use Rattle.smithy_types.specs.DocumentView.{view, items_view, members_view}
use Rattle.smithy_recovery.proofs.Nested.{Left, items_left, pairs_nesting}
use Rattle.smithy_recovery.proofs.shallow_documents.+shallow_document.Given as goal

-- arrays and objects count twice, so that a list counts between itself and its items

abbrev pub decreases-is_shallow_document : goal.decreases-is_shallow_document
decreases-is_shallow_document l = 2 * nesting (view l.document.now)

abbrev pub decreases-are_shallow_items : goal.decreases-are_shallow_items
decreases-are_shallow_items l = 2 * items_nesting (items_view l.documents.now) + 1

abbrev pub decreases-are_shallow_members : goal.decreases-are_shallow_members
decreases-are_shallow_members l = 2 * members_nesting (members_view l.members.now) + 1

abbrev pub invariant-are_shallow_items-items : goal.invariant-are_shallow_items-items
invariant-are_shallow_items-items l = Left l.levels (items_left l.items l.item-index) (items_nesting (items_view l.documents))

abbrev pub invariant-are_shallow_members-members : goal.invariant-are_shallow_members-members
invariant-are_shallow_members-members l = Left l.levels (pairs_nesting l.member-iterator) (members_nesting (members_view l.members))
