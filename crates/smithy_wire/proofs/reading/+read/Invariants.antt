use Rattle.smithy_wire.proofs.Common.{◌≡◌, ◌+◌, ◌*◌, drop}
use Rattle.json.specs.Tree.{depth, items_depth, members_depth}
use Rattle.json.specs.Value.{value_view, items_view, members_view}
use Rattle.smithy_json.proofs.DocumentLemmas.{and_items}
use Rattle.smithy_types.specs.DocumentView.{items_view as documents_view, members_view as fields_view}
use Rattle.smithy_types.specs.Documents.{members_of, put_all}
use Rattle.smithy_types.specs.Results.{then_give}
use Rattle.smithy_wire.specs.Unwire.{unwire_items, unwire_pairs}
use Rattle.smithy_wire.specs.views.WireOf.{form_in, style_in}
use Rattle.smithy_wire.proofs.reading.+read.Given as goal

-- arrays and objects count twice, so that a list counts between itself and its items

abbrev pub decreases-document_of : goal.decreases-document_of
decreases-document_of l = 2 * depth (value_view l.value.now)

abbrev pub decreases-items_of : goal.decreases-items_of
decreases-items_of l = 2 * items_depth (items_view l.items.now.items) + 1

abbrev pub decreases-members_of : goal.decreases-members_of
decreases-members_of l = 2 * members_depth (members_view l.members.now.items) + 1

abbrev pub invariant-items_of-items : goal.invariant-items_of-items
invariant-items_of-items l =
    then_give (unwire_items (style_in l.wire) (form_in l.wire) l.position (items_view (drop l.position l.items.items))) (and_items (documents_view l.found))
    ≡ unwire_items (style_in l.wire) (form_in l.wire) 0 (items_view l.items.items)

abbrev pub invariant-members_of-members : goal.invariant-members_of-members
invariant-members_of-members l =
    then_give (unwire_pairs (style_in l.wire) (form_in l.wire) (members_view (drop l.member-index l.members.items))) (λ ps. put_all ps (fields_view l.found))
    ≡ then_give (unwire_pairs (style_in l.wire) (form_in l.wire) (members_view l.members.items)) members_of
