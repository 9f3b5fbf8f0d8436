use Rattle.std.proofs.Common.{rules, refl}
use Rattle.smithy_serde.specs.Values.{whole, long}
use Rattle.smithy_serde.specs.declared.read_scalar.ScalarKind.TheVariants as of
use Rattle.smithy_serde.proofs.ReadLists.{each_not_opened, each_begins, each_halted, each_ends, each_added, each_refused, each_dropped}
use Rattle.smithy_serde.proofs.deserializer.ShapeDeserializer.read_long_list.Goals as goal

pub returns-in_err-open_list : goal.returns-in_err-open_list
returns-in_err-open_list g c = let whole = each_not_opened (whole long) of.Long _ _ _ _ c.in_err-open_list.ensures in search rules

pub loop-items-init : goal.loop-items-init
loop-items-init g c = rw c.new-items.ensures (each_begins (whole long) of.Long _ _ _ c.in_ok-open_list.ensures)

pub returns-in_err-next_element : goal.returns-in_err-next_element
returns-in_err-next_element g c = let whole = each_halted (whole long) of.Long _ _ _ _ _ _ c.loop-items.invariant c.in_err-next_element.ensures in search rules

pub returns-in_err-item : goal.returns-in_err-item
returns-in_err-item g c =
    let whole = each_refused (whole long) of.Long _ _ _ _ _ _ _ _ _ c.loop-items.invariant c.if-branch.true c.prelude-element.ensures.node c.in_err-item.ensures c.in_ok-next_element.ensures in search rules

pub returns-in_err-push : goal.returns-in_err-push
returns-in_err-push g c =
    let whole = each_dropped (whole long) of.Long _ _ _ _ _ _ _ _ _ _ c.loop-items.invariant c.if-branch.true c.in_ok-item.ensures c.in_ok-next_element.ensures refl in search rules

pub loop-items-preserved : goal.loop-items-preserved
loop-items-preserved g c =
    each_added (whole long) of.Long _ _ c.loop-items.items c.push.new.self _ c.in_ok-item.item _ _ _ _ _ c.loop-items.invariant c.if-branch.true c.prelude-element.ensures.node c.in_ok-item.ensures c.in_ok-next_element.ensures c.in_ok-push.ensures.ok (search rules)

pub returns : goal.returns
returns g c = each_ends (whole long) of.Long _ _ _ _ _ c.loop-items.invariant (rw c.if-branch.false at c.in_ok-next_element.ensures)
