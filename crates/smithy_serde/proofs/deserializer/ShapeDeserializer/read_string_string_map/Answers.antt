use Rattle.std.proofs.Common.{rules, refl}
use Rattle.smithy_serde.proofs.ReadTexts.{texts_not_opened, texts_begin, texts_halted, texts_end, texts_put, texts_refused, texts_dropped}
use Rattle.smithy_serde.proofs.deserializer.ShapeDeserializer.read_string_string_map.Goals as goal

pub returns-in_err-open_map : goal.returns-in_err-open_map
returns-in_err-open_map g c = let whole = texts_not_opened _ _ _ _ c.in_err-open_map.ensures in search rules

pub loop-items-init : goal.loop-items-init
loop-items-init g c = rw c.new-items.ensures (texts_begin _ _ _ c.in_ok-open_map.ensures)

pub returns-in_err-key : goal.returns-in_err-key
returns-in_err-key g c = let whole = texts_halted _ _ _ _ _ _ c.loop-items.invariant c.in_err-key.ensures in search rules

pub returns-in_err-item : goal.returns-in_err-item
returns-in_err-item g c =
    let entry = rw c.in-Some.is at c.in_ok-key.ensures in
    let read = rw c.prelude-value.ensures.node at c.in_err-item.ensures in
    let whole = texts_refused _ _ _ _ _ _ _ _ c.loop-items.invariant entry read in search rules

pub returns-in_err-insert : goal.returns-in_err-insert
returns-in_err-insert g c =
    let entry = rw c.in-Some.is at c.in_ok-key.ensures in
    let read = rw c.prelude-value.ensures.node at c.in_ok-item.ensures in
    let whole = texts_dropped _ _ _ _ _ _ _ _ _ c.loop-items.invariant entry read refl in search rules

pub loop-items-preserved : goal.loop-items-preserved
loop-items-preserved g c =
    let entry = rw c.in-Some.is at c.in_ok-key.ensures in
    let read = rw c.prelude-value.ensures.node at c.in_ok-item.ensures in
    texts_put _ _ c.loop-items.items _ _ _ _ _ _ c.loop-items.invariant entry read c.in_ok-insert.ensures.ok

pub returns : goal.returns
returns g c = texts_end _ _ _ _ _ c.loop-items.invariant (rw c.in_default.is at c.in_ok-key.ensures)
