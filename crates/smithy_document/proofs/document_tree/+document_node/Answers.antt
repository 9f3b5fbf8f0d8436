use Rattle.smithy_document.proofs.Common.{◌≡◌, ◌<◌, ◌*◌, ◌+◌, ◌++◌, [], ◌∷◌, map, ap, sym, ◌∙◌, subst, refl, arith, drop_all, IsTrue, nesting, items_nesting, members_nesting, items_of, list_of_members, view, items_view, members_view, node_view, nodes_view, StaysIn, are_items_in_order}
use Rattle.smithy_document.proofs.DocumentTrees.{none_found, one_found, all_found, items_from, item_first, ItemsOrdered, item_in_order, all_left, one_left, none_left, null_level, bool_level, number_level, text_level, array_level, object_level}
use Rattle.smithy_document.proofs.TreeDocuments.{nested_item, grows_not, grows_on, field_view, field_stays, fields_from}
use Rattle.smithy_document.proofs.ValueLemmas.{members_from, members_from_list}
use Rattle.smithy_document.proofs.document_tree.+document_node.Goals as goal

-- ---- items

pub nodes_of-node_of-requires : goal.nodes_of-node_of-requires
nodes_of-node_of-requires t c =
    let xs = c.as_slice-items.result.now in
    let inside = nested_item view xs c.items.item-index c.item-item.result c.items-test.true c.item-item.is in
    let same : items_nesting (items_of (map view xs)) ≡ items_nesting (items_view c.args.documents.now) = ap items_nesting c.as_slice-items.ensures in
    let below : 2 * nesting (view c.item-item.result) < t = omega (arith, inside, same, c.decreases) in
    (below, tt)

pub nodes_of-items-init : goal.nodes_of-items-init
nodes_of-items-init t c = (grows_not _ _ refl, none_found node_view _ _ _ c.in_ok-found.ensures.items, λ h. h)

pub nodes_of-items-preserved : goal.nodes_of-items-preserved
nodes_of-items-preserved t c =
    let l = c.items in
    let xs = c.as_slice-items.result.now in
    let d = view c.item-item.result in
    let first = item_first xs l.item-index c.item-item.result c.items-test.true c.item-item.is in
    let one = c.in_ok-node_of.ensures in (
      grows_on _ _ _ l.invariant.0 one.grows,
      one_found node_view _ _ _ l.found.items _ c.in_ok-node_of.field-0 d l.texts c.node_of.new.texts c.in_ok-push.ensures.items first one.grows one.is l.invariant.1,
      item_in_order (items_from xs l.item-index) (items_from xs (l.item-index + 1)) (map view xs) d first one.in_order l.invariant.2,
    )

pub nodes_of-returns-clause-are : goal.nodes_of-returns-clause-are
nodes_of-returns-clause-are t c =
    let xs = c.as_slice-items.result.now in
    let none : items_from xs c.items.item-index ≡ [] = ap (map view) (drop_all c.items.item-index xs c.items-test.false) in
    subst (λ ds. StaysIn (λ ts. nodes_view ts c.items.found.items) c.items.texts ds) c.as_slice-items.ensures
    (λ more. ap items_of (all_found node_view _ _ c.items.found.items c.items.texts none c.items.invariant.1 more))

pub nodes_of-returns-clause-in_order : goal.nodes_of-returns-clause-in_order
nodes_of-returns-clause-in_order t c =
    let xs = c.as_slice-items.result.now in
    let none : items_from xs c.items.item-index ≡ [] = ap (map view) (drop_all c.items.item-index xs c.items-test.false) in
    subst (λ ds. IsTrue (are_items_in_order ds)) c.as_slice-items.ensures (c.items.invariant.2 (subst ItemsOrdered (sym none) refl))

-- ---- members

pub fields_of-node_of-requires : goal.fields_of-node_of-requires
fields_of-node_of-requires t c =
    let d = view c.in-Some.member.now in
    let first = ap (λ ps. members_nesting (members_from ps)) c.in-Some.ensures.steps in
    let below : 2 * nesting d < t = omega (arith, first, c.members.invariant.2.below, c.decreases) in
    (below, tt)

pub fields_of-members-init : goal.fields_of-members-init
fields_of-members-init t c =
    let all = members_view c.args.members.now in
    let whole = c.into_iter-name-iterator.ensures.into_iter_gives ∙ c.iter-name-items.ensures.pairs in (
      grows_not _ _ refl,
      rw whole (none_found field_view (list_of_members all) _ _ c.in_ok-found.ensures.items),
      all_left _ all whole c.iter-name-items.ensures.ordered,
    )

pub fields_of-members-preserved : goal.fields_of-members-preserved
fields_of-members-preserved t c =
    let l = c.members in
    let k = c.in-Some.name.now in
    let d = view c.in-Some.member.now in
    let first = c.in-Some.ensures.steps in
    let name = c.in_ok-position.ensures in
    let one = c.in_ok-node_of.ensures in
    let grows = grows_on l.texts c.push.new.self c.node_of.new.texts (k ∷ [], name.ok) one.grows in
    let field = field_stays l.texts c.push.new.self c.node_of.new.texts k c.in_ok-position.position c.in_ok-node_of.field-0 d name.ok name.position one.grows one.is in (
      grows_on _ _ _ l.invariant.0 grows,
      one_found field_view _ _ _ l.found.items _ (c.in_ok-position.position, c.in_ok-node_of.field-0) (k, d) l.texts c.node_of.new.texts c.in_ok-push.ensures.items first grows field l.invariant.1,
      one_left _ _ (members_view c.args.members.now) k d first one.in_order l.invariant.2,
    )

pub fields_of-returns-clause-are : goal.fields_of-returns-clause-are
fields_of-returns-clause-are t c =
    let l = c.members in
    let all = all_found field_view _ _ l.found.items l.texts c.in-None.ensures.steps.0 l.invariant.1 in
    λ more. fields_from (l.texts ++ more) l.found.items ∙ ap members_from (all more) ∙ members_from_list (members_view c.args.members.now)

pub fields_of-returns-clause-in_order : goal.fields_of-returns-clause-in_order
fields_of-returns-clause-in_order t c = none_left _ _ c.in-None.ensures.steps.0 c.members.invariant.2

-- ---- documents

pub node_of-returns-in-Null-clause-is : goal.node_of-returns-in-Null-clause-is
node_of-returns-in-Null-clause-is t c = (null_level _ _ c.in-Null.is).is

pub node_of-returns-in-Null-clause-in_order : goal.node_of-returns-in-Null-clause-in_order
node_of-returns-in-Null-clause-in_order t c = (null_level _ [] c.in-Null.is).in_order

pub node_of-returns-in-Bool-clause-is : goal.node_of-returns-in-Bool-clause-is
node_of-returns-in-Bool-clause-is t c = (bool_level _ c.in-Bool.truth _ c.in-Bool.is).is

pub node_of-returns-in-Bool-clause-in_order : goal.node_of-returns-in-Bool-clause-in_order
node_of-returns-in-Bool-clause-in_order t c = (bool_level _ c.in-Bool.truth [] c.in-Bool.is).in_order

pub node_of-returns-in-Number-clause-is : goal.node_of-returns-in-Number-clause-is
node_of-returns-in-Number-clause-is t c = (number_level _ c.in-Number.number _ c.in-Number.is).is

pub node_of-returns-in-Number-clause-in_order : goal.node_of-returns-in-Number-clause-in_order
node_of-returns-in-Number-clause-in_order t c = (number_level _ c.in-Number.number [] c.in-Number.is).in_order

pub node_of-returns-in_ok-push-in-String-clause-is : goal.node_of-returns-in_ok-push-in-String-clause-is
node_of-returns-in_ok-push-in-String-clause-is t c =
    let pushed = c.in_ok-push-in-String.ensures.ok ∙ ap (λ text. c.args.texts.now ++ text ∷ []) c.as_str.ensures in
    (text_level _ c.in-String.text _ _ _ c.in-String.is pushed c.in_ok-push-in-String.ensures.position).is

pub node_of-returns-in_ok-nodes_of-in-Array-clause-is : goal.node_of-returns-in_ok-nodes_of-in-Array-clause-is
node_of-returns-in_ok-nodes_of-in-Array-clause-is t c =
    (array_level _ c.in-Array.items _ _ c.in-Array.is c.in_ok-nodes_of-in-Array.ensures.are c.in_ok-nodes_of-in-Array.ensures.in_order).is

pub node_of-returns-in_ok-fields_of-in-Object-clause-is : goal.node_of-returns-in_ok-fields_of-in-Object-clause-is
node_of-returns-in_ok-fields_of-in-Object-clause-is t c =
    (object_level _ c.in-Object.members _ _ c.in-Object.is c.in_ok-fields_of-in-Object.ensures.are c.in_ok-fields_of-in-Object.ensures.in_order).is
