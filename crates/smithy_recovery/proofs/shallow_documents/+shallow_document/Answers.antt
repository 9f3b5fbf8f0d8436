use Rattle.std.proofs.Common.{◌*◌, ◌<◌, ap, sym, ◌∙◌, arith}
use Rattle.smithy_types.specs.Documents.{nesting, items_nesting}
use Rattle.smithy_types.specs.DocumentView.{view, members_view}
use Rattle.smithy_recovery.proofs.Nested.{all_left, part_below, left_more, left_past, left_none, first_item, no_item, pairs_nesting, pairs_nested}
use Rattle.smithy_recovery.proofs.shallow_documents.+shallow_document.Goals as goal

pub are_shallow_items-items-init : goal.are_shallow_items-items-init
are_shallow_items-items-init t c = all_left _ _ _ (ap items_nesting c.as_slice-items.ensures)

pub are_shallow_items-is_shallow_document-requires : goal.are_shallow_items-is_shallow_document-requires
are_shallow_items-is_shallow_document-requires t c =
    let first = first_item c.as_slice-items.result.now c.items.item-index c.item-item.result c.items-test.true c.item-item.is in
    let inside = part_below _ _ _ _ _ first c.items.invariant in
    let below : 2 * nesting (view c.item-item.result) < t = omega (arith, inside, c.decreases) in
    (below, tt)

pub are_shallow_items-items-preserved : goal.are_shallow_items-items-preserved
are_shallow_items-items-preserved t c =
    let first = first_item c.as_slice-items.result.now c.items.item-index c.item-item.result c.items-test.true c.item-item.is in
    left_more _ _ _ _ _ first c.items.invariant (sym c.is_shallow_document.ensures ∙ c.if-not-is_shallow_document.false)

pub are_shallow_items-returns-then-not-is_shallow_document : goal.are_shallow_items-returns-then-not-is_shallow_document
are_shallow_items-returns-then-not-is_shallow_document t c =
    let first = first_item c.as_slice-items.result.now c.items.item-index c.item-item.result c.items-test.true c.item-item.is in
    left_past _ _ _ _ _ first c.items.invariant (sym c.is_shallow_document.ensures ∙ c.if-not-is_shallow_document.true)

pub are_shallow_items-returns : goal.are_shallow_items-returns
are_shallow_items-returns t c = left_none _ _ _ (no_item c.as_slice-items.result.now c.items.item-index c.items-test.false) c.items.invariant

pub are_shallow_members-members-init : goal.are_shallow_members-members-init
are_shallow_members-members-init t c =
    all_left _ _ _ (ap pairs_nesting (c.into_iter-member-iterator.ensures.into_iter_gives ∙ c.iter-member-items.ensures.pairs) ∙ pairs_nested (members_view c.args.members.now))

pub are_shallow_members-is_shallow_document-requires : goal.are_shallow_members-is_shallow_document-requires
are_shallow_members-is_shallow_document-requires t c =
    let inside = part_below _ _ _ _ _ (ap pairs_nesting c.in-Some.ensures.steps) c.members.invariant in
    let below : 2 * nesting (view c.in-Some.member.now) < t = omega (arith, inside, c.decreases) in
    (below, tt)

pub are_shallow_members-members-preserved : goal.are_shallow_members-members-preserved
are_shallow_members-members-preserved t c =
    left_more _ _ _ _ _ (ap pairs_nesting c.in-Some.ensures.steps) c.members.invariant (sym c.is_shallow_document.ensures ∙ c.if-not-is_shallow_document.false)

pub are_shallow_members-returns-then-not-is_shallow_document : goal.are_shallow_members-returns-then-not-is_shallow_document
are_shallow_members-returns-then-not-is_shallow_document t c =
    left_past _ _ _ _ _ (ap pairs_nesting c.in-Some.ensures.steps) c.members.invariant (sym c.is_shallow_document.ensures ∙ c.if-not-is_shallow_document.true)

pub are_shallow_members-returns : goal.are_shallow_members-returns
are_shallow_members-returns t c = left_none _ _ _ (ap pairs_nesting c.in-None.ensures.steps.0) c.members.invariant
