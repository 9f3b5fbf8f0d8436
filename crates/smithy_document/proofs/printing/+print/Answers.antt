use Rattle.smithy_document.proofs.Common.{◌≡◌, ◌<◌, ◌≤◌, ◌*◌, ◌+◌, ◌∷◌, [], ◌++◌, drop, map, sym, ap, ◌∙◌, subst, arith, drop_all, nesting, items_nesting, members_nesting, items_of, view, items_view, members_view, document_tokens, item_tokens, member_tokens, Prints}
use Rattle.json.specs.Token as token
use Rattle.smithy_types.specs.Documents as doc
use Rattle.smithy_document.proofs.PrintLemmas.{view-Array, view-Object, behind_one, Leaves, leaves_all, leaves_less, leaves_last, first_item}
use Rattle.smithy_document.proofs.TreeDocuments.{nested_item}
use Rattle.smithy_document.proofs.ValueLemmas.{members_from, members_from_list}
use Rattle.smithy_document.proofs.printing.+print.Goals as goal

-- ---- items

pub print_items-print_document-requires : goal.print_items-print_document-requires
print_items-print_document-requires t c =
    let xs = c.as_slice-items.result.now in
    let inside = nested_item view xs c.items.item-index c.item-item.result c.items-test.true c.item-item.is in
    let same : items_nesting (items_of (map view xs)) ≡ items_nesting (items_view c.args.documents.now) = ap items_nesting c.as_slice-items.ensures in
    let below : 2 * nesting (view c.item-item.result) < t = omega (arith, inside, same, c.decreases) in
    (below, tt)

pub print_items-items-init : goal.print_items-items-init
print_items-items-init t c = leaves_all (item_tokens (items_of (map view c.as_slice-items.result.now))) c.args.writer.now

pub print_items-items-preserved : goal.print_items-items-preserved
print_items-items-preserved t c =
    let xs = c.as_slice-items.result.now in
    let x = c.item-item.result in
    let i = c.items.item-index in
    let all = item_tokens (items_of (map view xs)) in
    let here = subst (λ ts. Leaves ts all c.args.writer.now c.items.writer) (first_item xs i x c.items-test.true c.item-item.is) c.items.invariant in
    leaves_less (document_tokens (view x)) (item_tokens (items_of (map view (drop (i + 1) xs)))) all c.args.writer.now c.items.writer c.print_document.new.writer c.in_ok-print_document.ensures here

pub print_items-returns : goal.print_items-returns
print_items-returns t c =
    let xs = c.as_slice-items.result.now in
    let all = item_tokens (items_of (map view xs)) in
    let none = ap (λ ys. item_tokens (items_of (map view ys))) (drop_all c.items.item-index xs c.items-test.false) in
    let here = subst (λ ts. Leaves ts all c.args.writer.now c.items.writer) none c.items.invariant in
    subst (λ ds. Prints (item_tokens ds) c.args.writer.now c.print_token.new.writer c.print_token.result) c.as_slice-items.ensures
    (leaves_last c.print_token.result (item_tokens doc.no_items) all c.args.writer.now c.items.writer c.print_token.new.writer here c.print_token.ensures)

-- ---- members

pub print_members-print_document-requires : goal.print_members-print_document-requires
print_members-print_document-requires t c =
    let d = view c.in-Some.member.now in
    let first = ap (λ ps. members_nesting (members_from ps)) c.in-Some.ensures.steps in
    let below : 2 * nesting d < t = omega (arith, first, c.members.invariant.1, c.decreases) in
    (below, tt)

pub print_members-members-init : goal.print_members-members-init
print_members-members-init t c =
    let all = ap members_from (c.into_iter-name-iterator.ensures.into_iter_gives ∙ c.iter-name-items.ensures.pairs) ∙ members_from_list (members_view c.args.members.now) in
    subst (λ ms. Leaves (member_tokens ms) (member_tokens (members_view c.args.members.now)) c.args.writer.now c.args.writer.now × (members_nesting ms ≤ members_nesting (members_view c.args.members.now)))
    (sym all) (leaves_all (member_tokens (members_view c.args.members.now)) c.args.writer.now, omega arith)

pub print_members-members-preserved : goal.print_members-members-preserved
print_members-members-preserved t c =
    let k = c.in-Some.name.now in
    let d = view c.in-Some.member.now in
    let rest = member_tokens (members_from c.next.new.self) in
    let all = member_tokens (members_view c.args.members.now) in
    let here = subst (λ ps. Leaves (member_tokens (members_from ps)) all c.args.writer.now c.members.writer) c.in-Some.ensures.steps c.members.invariant.0 in
    let named = leaves_less (token.key k ∷ []) (document_tokens d ++ rest) all c.args.writer.now c.members.writer c.print_token.new.writer c.in_ok-print_token.ensures here in
    let first = ap (λ ps. members_nesting (members_from ps)) c.in-Some.ensures.steps in
    (leaves_less (document_tokens d) rest all c.args.writer.now c.print_token.new.writer c.print_document.new.writer c.in_ok-print_document.ensures named, omega (arith, first, c.members.invariant.1))

pub print_members-returns : goal.print_members-returns
print_members-returns t c =
    let all = member_tokens (members_view c.args.members.now) in
    let here = subst (λ ps. Leaves (member_tokens (members_from ps)) all c.args.writer.now c.members.writer) c.in-None.ensures.steps.0 c.members.invariant.0 in
    leaves_last c.print_token-2.result (member_tokens doc.no_members) all c.args.writer.now c.members.writer c.print_token-2.new.writer here c.print_token-2.ensures

-- ---- documents

pub print_document-returns-in_ok-print_token-in-Array : goal.print_document-returns-in_ok-print_token-in-Array
print_document-returns-in_ok-print_token-in-Array t c =
    rw (c.in-Array.is, view-Array c.in-Array.items)
    (behind_one c.print_items.result c.args.writer.now c.print_token-in-Array.new.writer c.print_items.new.writer token.begin_array (item_tokens (items_view c.in-Array.items)) c.in_ok-print_token-in-Array.ensures c.print_items.ensures)

pub print_document-returns-in_ok-print_token-in-Object : goal.print_document-returns-in_ok-print_token-in-Object
print_document-returns-in_ok-print_token-in-Object t c =
    rw (c.in-Object.is, view-Object c.in-Object.members)
    (behind_one c.print_members.result c.args.writer.now c.print_token-in-Object.new.writer c.print_members.new.writer token.begin_object (member_tokens (members_view c.in-Object.members)) c.in_ok-print_token-in-Object.ensures c.print_members.ensures)
