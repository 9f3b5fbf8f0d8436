use Rattle.smithy_document.proofs.Common.{◌<◌, ◌*◌, [], ◌∷◌, refl, arith, depth}
use Rattle.smithy_json.specs.JsonView.{view}
use Rattle.smithy_document.proofs.JsonTreeLemmas.{null_found, bool_found, number_found, text_found, array_found, object_found, item_depth, item_ordered, no_items, one_item, all_items, member_depth, member_ordered, one_field, all_fields}
use Rattle.smithy_document.proofs.TreeDocuments.{grows_not, grows_on}
use Rattle.smithy_document.proofs.json_tree_reading.+node.Goals as goal

pub node_of-returns-in-Null-clause-is : goal.node_of-returns-in-Null-clause-is
node_of-returns-in-Null-clause-is t c = null_found _ _ c.in-Null.is

pub node_of-returns-in-Bool-clause-is : goal.node_of-returns-in-Bool-clause-is
node_of-returns-in-Bool-clause-is t c = bool_found _ c.in-Bool.truth _ c.in-Bool.is

pub node_of-returns-in-Some-clause-is : goal.node_of-returns-in-Some-clause-is
node_of-returns-in-Some-clause-is t c = number_found _ c.in-Number.number _ _ c.in-Number.is c.in-Some.ensures

pub node_of-returns-in_ok-push-in-String-clause-is : goal.node_of-returns-in_ok-push-in-String-clause-is
node_of-returns-in_ok-push-in-String-clause-is t c = text_found _ c.in-String.text _ _ _ c.in-String.is c.in_ok-push-in-String.ensures.ok c.in_ok-push-in-String.ensures.position

pub node_of-returns-in_ok-nodes_of-in-Array-clause-is : goal.node_of-returns-in_ok-nodes_of-in-Array-clause-is
node_of-returns-in_ok-nodes_of-in-Array-clause-is t c = array_found _ c.in-Array.items _ _ c.in-Array.is c.in_ok-nodes_of-in-Array.ensures.are

pub node_of-returns-in_ok-fields_of-in-Object-clause-is : goal.node_of-returns-in_ok-fields_of-in-Object-clause-is
node_of-returns-in_ok-fields_of-in-Object-clause-is t c = object_found _ c.in-Object.members _ _ c.in-Object.is c.in_ok-fields_of-in-Object.ensures.are

pub nodes_of-items-init : goal.nodes_of-items-init
nodes_of-items-init t c = (grows_not _ _ refl, no_items _ _ _ c.in_ok-found.ensures.items)

pub nodes_of-node_of-requires : goal.nodes_of-node_of-requires
nodes_of-node_of-requires t c =
    let vs = c.args.items.now.items in
    let i = c.items.item-index in
    let v = c.item-item.result in
    let within = rw c.deref-item-items.ensures.value at c.items-test.true in
    let is = rw c.deref-item-items.ensures.value at c.item-item.is in
    let inside = item_depth vs i v within is in
    let below : 2 * depth (view v) < t = omega (arith, inside, c.decreases) in
    (below, item_ordered vs i v within is c.requires)

pub nodes_of-items-preserved : goal.nodes_of-items-preserved
nodes_of-items-preserved t c =
    let l = c.items in
    let one = c.in_ok-node_of.ensures in (
      grows_on _ _ _ l.invariant.0 one.grows,
      one_item c.args.items.now.items l.item-index c.item-item.result l.found.items _ c.in_ok-node_of.field-0 l.texts c.node_of.new.texts (rw c.deref-item-items.ensures.value at c.items-test.true) (rw c.deref-item-items.ensures.value at c.item-item.is) c.in_ok-push.ensures.items one.grows l.invariant.1 one.is,
    )

pub nodes_of-returns-clause-are : goal.nodes_of-returns-clause-are
nodes_of-returns-clause-are t c = all_items c.args.items.now.items c.items.item-index c.items.found.items c.items.texts (rw c.deref-item-items.ensures.value at c.items-test.false) c.items.invariant.1

pub fields_of-node_of-requires : goal.fields_of-node_of-requires
fields_of-node_of-requires t c =
    let ms = c.args.members.now.items in
    let i = c.members.member-index in
    let m = c.member-item.result in
    let within = rw c.deref-member-items.ensures.value at c.members-test.true in
    let is = rw c.deref-member-items.ensures.value at c.member-item.is in
    let inside = member_depth ms i m within is in
    let below : 2 * depth (view m.1) < t = omega (arith, inside, c.decreases) in
    (below, member_ordered ms i m within is c.requires)

pub fields_of-members-preserved : goal.fields_of-members-preserved
fields_of-members-preserved t c =
    let l = c.members in
    let name = c.in_ok-position.ensures in
    let one = c.in_ok-node_of.ensures in (
      grows_on _ _ _ l.invariant.0 (grows_on l.texts c.push.new.self c.node_of.new.texts (c.member-item.result.0.now ∷ [], name.ok) one.grows),
      one_field c.args.members.now.items l.member-index c.member-item.result l.found.items _ c.in_ok-position.position c.in_ok-node_of.field-0 l.texts c.push.new.self c.node_of.new.texts (rw c.deref-member-items.ensures.value at c.members-test.true) (rw c.deref-member-items.ensures.value at c.member-item.is) c.in_ok-push.ensures.items name.ok name.position one.grows l.invariant.1 one.is,
    )

pub fields_of-returns-clause-are : goal.fields_of-returns-clause-are
fields_of-returns-clause-are t c = all_fields c.args.members.now.items c.members.member-index c.members.found.items c.members.texts (rw c.deref-member-items.ensures.value at c.members-test.false) c.requires c.members.invariant.1
