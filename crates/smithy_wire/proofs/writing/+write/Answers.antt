use Rattle.smithy_wire.proofs.Common.{◌≡◌, ◌<◌, ◌≤◌, ◌*◌, ◌+◌, ◌∷◌, [], ◌++◌, drop, map, sym, ap, ◌∙◌, subst, arith}
use Rattle.smithy_document.proofs.Common.{drop_all, Prints}
use Rattle.json.specs.Token as token
use Rattle.json.specs.Tree.{json_tokens, items_tokens, members_tokens}
use Rattle.smithy_types.specs.DocumentView.{view, items_view, members_view}
use Rattle.smithy_types.specs.Documents as doc
use Rattle.smithy_types.specs.Documents.{items_of, nesting, items_nesting, members_nesting}
use Rattle.smithy_document.proofs.PrintLemmas.{view-Array, view-Object, behind_one, Leaves, leaves_all, leaves_less, leaves_last}
use Rattle.smithy_document.proofs.TreeDocuments.{nested_item}
use Rattle.smithy_document.proofs.ValueLemmas.{members_from, members_from_list}
use Rattle.smithy_wire.specs.Forms.{element_form, part_form}
use Rattle.smithy_wire.specs.Wire.{wire, wire_items, wire_members}
use Rattle.smithy_wire.specs.views.WireOf.{form_in, names_in}
use Rattle.smithy_wire.proofs.WriteLemmas.{first_item}
use Rattle.smithy_wire.proofs.writing.+write.Goals as goal

-- ---- items

pub write_items-write_document-requires : goal.write_items-write_document-requires
write_items-write_document-requires t c =
    let xs = c.as_slice-items.result.now in
    let inside = nested_item view xs c.items.item-index c.item-item.result c.items-test.true c.item-item.is in
    let same : items_nesting (items_of (map view xs)) ≡ items_nesting (items_view c.args.documents.now) = ap items_nesting c.as_slice-items.ensures in
    let below : 2 * nesting (view c.item-item.result) < t = omega (arith, inside, same, c.decreases) in
    (below, tt)

pub write_items-items-init : goal.write_items-items-init
write_items-items-init t c =
    leaves_all (items_tokens (wire_items (names_in c.args.wire) (form_in c.args.wire) (items_of (map view c.as_slice-items.result.now)))) c.args.writer.now

pub write_items-items-preserved : goal.write_items-items-preserved
write_items-items-preserved t c =
    let n = names_in c.args.wire in
    let f = form_in c.args.wire in
    let xs = c.as_slice-items.result.now in
    let x = c.item-item.result in
    let i = c.items.item-index in
    let all = items_tokens (wire_items n f (items_of (map view xs))) in
    let here = subst (λ ts. Leaves ts all c.args.writer.now c.items.writer) (first_item n f xs i x c.items-test.true c.item-item.is) c.items.invariant in
    leaves_less (json_tokens (wire n f (view x))) (items_tokens (wire_items n f (items_of (map view (drop (i + 1) xs))))) all c.args.writer.now c.items.writer c.write_document.new.writer c.in_ok-write_document.ensures here

pub write_items-returns : goal.write_items-returns
write_items-returns t c =
    let n = names_in c.args.wire in
    let f = form_in c.args.wire in
    let xs = c.as_slice-items.result.now in
    let all = items_tokens (wire_items n f (items_of (map view xs))) in
    let none = ap (λ ys. items_tokens (wire_items n f (items_of (map view ys)))) (drop_all c.items.item-index xs c.items-test.false) in
    let here = subst (λ ts. Leaves ts all c.args.writer.now c.items.writer) none c.items.invariant in
    subst (λ ds. Prints (items_tokens (wire_items n f ds)) c.args.writer.now c.write_token.new.writer c.write_token.result) c.as_slice-items.ensures
    (leaves_last c.write_token.result (items_tokens (wire_items n f doc.no_items)) all c.args.writer.now c.items.writer c.write_token.new.writer here c.write_token.ensures)

-- ---- members

pub write_members-write_document-requires : goal.write_members-write_document-requires
write_members-write_document-requires t c =
    let d = view c.in-Some.member.now in
    let first = ap (λ ps. members_nesting (members_from ps)) c.in-Some.ensures.steps in
    let below : 2 * nesting d < t = omega (arith, first, c.members.invariant.1, c.decreases) in
    (below, tt)

pub write_members-members-init : goal.write_members-members-init
write_members-members-init t c =
    let n = names_in c.args.wire in
    let f = form_in c.args.wire in
    let all = ap members_from (c.into_iter-name-iterator.ensures.into_iter_gives ∙ c.iter-name-items.ensures.pairs) ∙ members_from_list (members_view c.args.members.now) in
    subst (λ ms. Leaves (members_tokens (wire_members n f ms)) (members_tokens (wire_members n f (members_view c.args.members.now))) c.args.writer.now c.args.writer.now × (members_nesting ms ≤ members_nesting (members_view c.args.members.now)))
    (sym all) (leaves_all (members_tokens (wire_members n f (members_view c.args.members.now))) c.args.writer.now, omega arith)

pub write_members-members-preserved : goal.write_members-members-preserved
write_members-members-preserved t c =
    let n = names_in c.args.wire in
    let f = form_in c.args.wire in
    let k = c.in-Some.name.now in
    let d = view c.in-Some.member.now in
    let part = c.written_part-part.result in
    let w = part.name.now in
    let g = form_in part.place in
    let rest = members_tokens (wire_members n f (members_from c.next.new.self)) in
    let all = members_tokens (wire_members n f (members_view c.args.members.now)) in
    let here = subst (λ ps. Leaves (members_tokens (wire_members n f (members_from ps))) all c.args.writer.now c.members.writer) c.in-Some.ensures.steps c.members.invariant.0 in
    let renamed = subst (λ x. Leaves (token.key x ∷ (json_tokens (wire n (part_form f k) d) ++ rest)) all c.args.writer.now c.members.writer) (sym c.written_part-part.ensures.name) here in
    let placed = subst (λ h. Leaves (token.key w ∷ (json_tokens (wire n h d) ++ rest)) all c.args.writer.now c.members.writer) (sym c.written_part-part.ensures.form) renamed in
    let o = names_in part.place in
    let kept = subst (λ x. Leaves (token.key w ∷ (json_tokens (wire x g d) ++ rest)) all c.args.writer.now c.members.writer) (ap (λ s. s.json_names) (sym c.written_part-part.ensures.style)) placed in
    let named = leaves_less (token.key w ∷ []) (json_tokens (wire o g d) ++ rest) all c.args.writer.now c.members.writer c.write_token.new.writer c.in_ok-write_token.ensures kept in
    let first = ap (λ ps. members_nesting (members_from ps)) c.in-Some.ensures.steps in
    (leaves_less (json_tokens (wire o g d)) rest all c.args.writer.now c.write_token.new.writer c.write_document.new.writer c.in_ok-write_document.ensures named, omega (arith, first, c.members.invariant.1))

pub write_members-returns : goal.write_members-returns
write_members-returns t c =
    let n = names_in c.args.wire in
    let f = form_in c.args.wire in
    let all = members_tokens (wire_members n f (members_view c.args.members.now)) in
    let here = subst (λ ps. Leaves (members_tokens (wire_members n f (members_from ps))) all c.args.writer.now c.members.writer) c.in-None.ensures.steps.0 c.members.invariant.0 in
    leaves_last c.write_token-2.result (members_tokens (wire_members n f doc.no_members)) all c.args.writer.now c.members.writer c.write_token-2.new.writer here c.write_token-2.ensures

-- ---- documents

pub write_document-returns-in_ok-write_token-in-Array : goal.write_document-returns-in_ok-write_token-in-Array
write_document-returns-in_ok-write_token-in-Array t c =
    let n = names_in c.args.wire in
    let kept = subst (λ x. Prints (items_tokens (wire_items x (form_in c.element.result) (items_view c.in-Array.items))) c.write_token-in-Array.new.writer c.write_items.new.writer c.write_items.result) (ap (λ s. s.json_names) c.element.ensures.style) c.write_items.ensures in
    let ts = subst (λ g. Prints (items_tokens (wire_items n g (items_view c.in-Array.items))) c.write_token-in-Array.new.writer c.write_items.new.writer c.write_items.result) c.element.ensures.form kept in
    rw (c.in-Array.is, view-Array c.in-Array.items)
    (behind_one c.write_items.result c.args.writer.now c.write_token-in-Array.new.writer c.write_items.new.writer token.begin_array (items_tokens (wire_items n (element_form (form_in c.args.wire)) (items_view c.in-Array.items))) c.in_ok-write_token-in-Array.ensures ts)

pub write_document-returns-in_ok-write_token-in-Object : goal.write_document-returns-in_ok-write_token-in-Object
write_document-returns-in_ok-write_token-in-Object t c =
    rw (c.in-Object.is, view-Object c.in-Object.members)
    (behind_one c.write_members.result c.args.writer.now c.write_token-in-Object.new.writer c.write_members.new.writer token.begin_object (members_tokens (wire_members (names_in c.args.wire) (form_in c.args.wire) (members_view c.in-Object.members))) c.in_ok-write_token-in-Object.ensures c.write_members.ensures)
