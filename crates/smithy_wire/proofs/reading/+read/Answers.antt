use Rattle.smithy_wire.proofs.Common.{◌≡◌, ◌<◌, ◌*◌, length, Err, ◌∙◌, arith}
use Rattle.json.specs.Tree.{depth}
use Rattle.json.specs.Value.{value_view, items_view}
use Rattle.smithy_types.specs.DocumentView.{view, items_view as documents_view, members_view as fields_view}
use Rattle.smithy_wire.specs.Unwire.{unwire, unwire_items}
use Rattle.smithy_wire.specs.views.WireOf.{form_in, style_in}
use Rattle.smithy_wire.specs.views.WireReads.{step_view}
use Rattle.smithy_wire.proofs.ReadLemmas.{items_more, items_end, item_depth, member_depth, part_read, refused_item, refused_member}
use Rattle.smithy_wire.proofs.reading.+read.Goals as goal

-- ---- items

pub items_of-document_of-tried-requires : goal.items_of-document_of-tried-requires
items_of-document_of-tried-requires t c =
    let vs = c.args.items.now.items in
    let size : c.len-position-end.result ≡ length vs = c.len-position-end.ensures ∙ c.args.items.now.ok.0 in
    let within : c.items.position < length vs = omega (arith, c.items-test.true, size) in
    let inside = item_depth vs c.items.position c.index-value.result.now within c.index-value.ensures in
    let below : 2 * depth (value_view c.index-value.result.now) < t = omega (arith, inside, c.decreases) in
    (below, tt)

pub items_of-items-preserved : goal.items_of-items-preserved
items_of-items-preserved t c =
    let n = style_in c.args.wire in
    let f = form_in c.args.wire in
    let vs = c.args.items.now.items in
    let v = c.index-value.result.now in
    let i = c.items.position in
    let size : c.len-position-end.result ≡ length vs = c.len-position-end.ensures ∙ c.args.items.now.ok.0 in
    let within : i < length vs = omega (arith, c.items-test.true, size) in
    rw c.in_ok-push.ensures.ok
    (items_more n f i vs v (documents_view c.items.found) (view c.in_ok-item.item) (unwire_items n f 0 (items_view vs)) within c.index-value.ensures
    (c.in_ok-item.ensures (unwire n f (value_view v)) c.document_of-tried.ensures) c.items.invariant)

pub items_of-returns-in_err-item : goal.items_of-returns-in_err-item
items_of-returns-in_err-item t c =
    let n = style_in c.args.wire in
    let f = form_in c.args.wire in
    let vs = c.args.items.now.items in
    let v = c.index-value.result.now in
    let i = c.items.position in
    let size : c.len-position-end.result ≡ length vs = c.len-position-end.ensures ∙ c.args.items.now.ok.0 in
    let within : i < length vs = omega (arith, c.items-test.true, size) in
    refused_item n f i vs v (documents_view c.items.found) c.in_err-item.field-0.0 c.from_residual.result c.from_residual.ensures.1 within c.index-value.ensures
    (c.in_err-item.ensures (unwire n f (value_view v)) c.document_of-tried.ensures) c.items.invariant

pub items_of-returns : goal.items_of-returns
items_of-returns t c =
    let vs = c.args.items.now.items in
    let size : c.len-position-end.result ≡ length vs = c.len-position-end.ensures ∙ c.args.items.now.ok.0 in
    items_end (style_in c.args.wire) (form_in c.args.wire) c.items.position vs (documents_view c.items.found) (unwire_items (style_in c.args.wire) (form_in c.args.wire) 0 (items_view vs)) (omega (arith, c.items-test.false, size)) c.items.invariant

-- ---- members

pub members_of-document_of-tried-requires : goal.members_of-document_of-tried-requires
members_of-document_of-tried-requires t c =
    let ms = c.args.members.now.items in
    let m = c.member-item.result in
    let within = rw c.deref-member-items.ensures.value at c.members-test.true in
    let is = rw c.deref-member-items.ensures.value at c.member-item.is in
    let inside = member_depth ms c.members.member-index m within is in
    let below : 2 * depth (value_view m.1) < t = omega (arith, inside, c.decreases) in
    (below, tt)

pub members_of-returns-in_err-document : goal.members_of-returns-in_err-document
members_of-returns-in_err-document t c =
    let n = style_in c.args.wire in
    let f = form_in c.args.wire in
    let ms = c.args.members.now.items in
    let m = c.member-item.result in
    let within = rw c.deref-member-items.ensures.value at c.members-test.true in
    let is = rw c.deref-member-items.ensures.value at c.member-item.is in
    refused_member n f c.members.member-index ms m (fields_view c.members.found) c.in_err-document.field-0.0 c.from_residual.result c.from_residual.ensures.1 within is
    (part_read n f m c.read_part-part.result.name.now (style_in c.read_part-part.result.place) (form_in c.read_part-part.result.place) (step_view c.part_step.result) (Err c.in_err-document.field-0.0) c.read_part-part.ensures.name c.read_part-part.ensures.style c.read_part-part.ensures.form c.part_step.ensures (c.in_err-document.ensures (unwire (style_in c.read_part-part.result.place) (form_in c.read_part-part.result.place) (value_view m.1)) c.document_of-tried.ensures)) c.members.invariant
