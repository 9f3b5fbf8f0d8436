use Rattle.smithy_wire.proofs.Common.{◌*◌, ◌+◌, ◌≤◌, drop, map}
use Rattle.json.specs.Tree.{items_tokens, members_tokens}
use Rattle.smithy_document.proofs.PrintLemmas.{Leaves}
use Rattle.smithy_document.proofs.ValueLemmas.{members_from}
use Rattle.smithy_types.specs.DocumentView.{view, items_view, members_view}
use Rattle.smithy_types.specs.Documents.{items_of, nesting, items_nesting, members_nesting}
use Rattle.smithy_wire.specs.Wire.{wire_items, wire_members}
use Rattle.smithy_wire.specs.views.WireOf.{form_in, names_in}
use Rattle.smithy_wire.proofs.writing.+write.Given as goal

-- arrays and objects count twice, so that a list counts between itself and its items

abbrev pub decreases-write_document : goal.decreases-write_document
decreases-write_document l = 2 * nesting (view l.document.now)

abbrev pub decreases-write_items : goal.decreases-write_items
decreases-write_items l = 2 * items_nesting (items_view l.documents.now) + 1

abbrev pub decreases-write_members : goal.decreases-write_members
decreases-write_members l = 2 * members_nesting (members_view l.members.now) + 1

abbrev pub invariant-write_items-items : goal.invariant-write_items-items
invariant-write_items-items l =
    Leaves (items_tokens (wire_items (names_in l.wire) (form_in l.wire) (items_of (map view (drop l.item-index l.items)))))
    (items_tokens (wire_items (names_in l.wire) (form_in l.wire) (items_of (map view l.items)))) l.initial.writer l.writer

abbrev pub invariant-write_members-members : goal.invariant-write_members-members
invariant-write_members-members l =
    Leaves (members_tokens (wire_members (names_in l.wire) (form_in l.wire) (members_from l.name-iterator)))
    (members_tokens (wire_members (names_in l.wire) (form_in l.wire) (members_view l.members))) l.initial.writer l.writer
    × (members_nesting (members_from l.name-iterator) ≤ members_nesting (members_view l.members))
