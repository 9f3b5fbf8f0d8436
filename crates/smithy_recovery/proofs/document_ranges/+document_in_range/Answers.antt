use Rattle.std.proofs.Common.{◌*◌, ◌<◌, sym, ◌∙◌, arith}
use Rattle.smithy_types.specs.Documents.{nesting}
use Rattle.smithy_types.specs.DocumentView.{view, members_view}
use Rattle.smithy_recovery.proofs.InRange.{first_from, none_from, all_items, item_below, items_more, items_past, items_end, all_members, member_below, members_more, name_past, member_past, members_end}
use Rattle.smithy_recovery.proofs.document_ranges.+document_in_range.Goals as goal

pub are_items_in_range-items-init : goal.are_items_in_range-items-init
are_items_in_range-items-init t c = all_items _ _ c.as_slice-items.ensures

pub are_items_in_range-is_document_in_range-requires : goal.are_items_in_range-is_document_in_range-requires
are_items_in_range-is_document_in_range-requires t c =
    let first = first_from c.as_slice-items.result.now c.items.item-index c.item-item.result c.items-test.true c.item-item.is in
    let inside = item_below _ _ _ _ first c.items.invariant in
    let below : 2 * nesting (view c.item-item.result) < t = omega (arith, inside, c.decreases) in
    (below, tt)

pub are_items_in_range-items-preserved : goal.are_items_in_range-items-preserved
are_items_in_range-items-preserved t c =
    let first = first_from c.as_slice-items.result.now c.items.item-index c.item-item.result c.items-test.true c.item-item.is in
    items_more _ _ _ _ first c.items.invariant (sym c.is_document_in_range.ensures ∙ c.if-not-is_document_in_range.false)

pub are_items_in_range-returns-then-not-is_document_in_range : goal.are_items_in_range-returns-then-not-is_document_in_range
are_items_in_range-returns-then-not-is_document_in_range t c =
    let first = first_from c.as_slice-items.result.now c.items.item-index c.item-item.result c.items-test.true c.item-item.is in
    items_past _ _ _ _ first c.items.invariant (sym c.is_document_in_range.ensures ∙ c.if-not-is_document_in_range.true)

pub are_items_in_range-returns : goal.are_items_in_range-returns
are_items_in_range-returns t c = items_end _ _ (none_from c.as_slice-items.result.now c.items.item-index c.items-test.false) c.items.invariant

pub are_members_in_range-members-init : goal.are_members_in_range-members-init
are_members_in_range-members-init t c =
    all_members _ (members_view c.args.members.now) (c.into_iter-name-iterator.ensures.into_iter_gives ∙ c.iter-name-items.ensures.pairs) c.iter-name-items.ensures.ordered

pub are_members_in_range-is_document_in_range-requires : goal.are_members_in_range-is_document_in_range-requires
are_members_in_range-is_document_in_range-requires t c =
    let inside = member_below _ _ _ _ _ c.in-Some.ensures.steps c.members.invariant in
    let below : 2 * nesting (view c.in-Some.member.now) < t = omega (arith, inside, c.decreases) in
    (below, tt)

pub are_members_in_range-returns-then-not-is_text : goal.are_members_in_range-returns-then-not-is_text
are_members_in_range-returns-then-not-is_text t c =
    name_past _ _ _ _ _ c.in-Some.ensures.steps c.members.invariant (sym c.is_text.ensures ∙ c.if-not-is_text.true)

pub are_members_in_range-returns-then-not-is_document_in_range : goal.are_members_in_range-returns-then-not-is_document_in_range
are_members_in_range-returns-then-not-is_document_in_range t c =
    member_past _ _ _ _ _ c.in-Some.ensures.steps c.members.invariant (sym c.is_text.ensures ∙ c.if-not-is_text.false)
    (sym c.is_document_in_range.ensures ∙ c.if-not-is_document_in_range.true)

pub are_members_in_range-members-preserved : goal.are_members_in_range-members-preserved
are_members_in_range-members-preserved t c =
    members_more _ _ _ _ _ c.in-Some.ensures.steps c.members.invariant (sym c.is_text.ensures ∙ c.if-not-is_text.false)
    (sym c.is_document_in_range.ensures ∙ c.if-not-is_document_in_range.false)

pub are_members_in_range-returns : goal.are_members_in_range-returns
are_members_in_range-returns t c = members_end _ _ c.in-None.ensures.steps.0 c.members.invariant
