use Rattle.std.proofs.Common.{◌≡◌, map, drop}
use Rattle.smithy_types.specs.Documents.{items_of, are_canonical_items, are_canonical_members}
use Rattle.smithy_types.specs.views.DocumentView.{view, items_view, members_view}
use Rattle.smithy_types.proofs.Views.{entries_view}
use Rattle.smithy_types.proofs.canonical.+canonical.Given as goal

abbrev pub invariant-are_canonical-loop-item : goal.invariant-are_canonical-loop-item
invariant-are_canonical-loop-item l = are_canonical_items (items_of (map view (drop l.item-index l.item-items))) ≡ are_canonical_items (items_view l.documents)

abbrev pub invariant-have_canonical-loop-key : goal.invariant-have_canonical-loop-key
invariant-have_canonical-loop-key l = are_canonical_members (entries_view l._key-iterator) ≡ are_canonical_members (members_view l.members)
