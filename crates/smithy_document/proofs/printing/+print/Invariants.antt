use Rattle.smithy_document.proofs.Common.{◌*◌, ◌+◌, ◌≤◌, drop, map, nesting, items_nesting, members_nesting, items_of, view, items_view, members_view, item_tokens, member_tokens}
use Rattle.smithy_document.proofs.PrintLemmas.{Leaves}
use Rattle.smithy_document.proofs.ValueLemmas.{members_from}
use Rattle.smithy_document.proofs.printing.+print.Given as goal

-- arrays and objects count twice, so that a list counts between itself and its items

abbrev pub decreases-print_document : goal.decreases-print_document
decreases-print_document l = 2 * nesting (view l.document.now)

abbrev pub decreases-print_items : goal.decreases-print_items
decreases-print_items l = 2 * items_nesting (items_view l.documents.now) + 1

abbrev pub decreases-print_members : goal.decreases-print_members
decreases-print_members l = 2 * members_nesting (members_view l.members.now) + 1

abbrev pub invariant-print_items-items : goal.invariant-print_items-items
invariant-print_items-items l = Leaves (item_tokens (items_of (map view (drop l.item-index l.items)))) (item_tokens (items_of (map view l.items))) l.initial.writer l.writer

abbrev pub invariant-print_members-members : goal.invariant-print_members-members
invariant-print_members-members l =
    Leaves (member_tokens (members_from l.name-iterator)) (member_tokens (members_view l.members)) l.initial.writer l.writer
    × (members_nesting (members_from l.name-iterator) ≤ members_nesting (members_view l.members))
