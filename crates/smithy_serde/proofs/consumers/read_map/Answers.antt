use Rattle.std.proofs.Common.{rules, refl}
use Rattle.smithy_serde.specs.views.Handing.{at_entries}
use Rattle.smithy_serde.proofs.ReadWalk.{not_opened, begins, halted, stopped, taken}
use Rattle.smithy_serde.proofs.consumers.read_map.Goals as goal

pub returns-in_err-open_map : goal.returns-in_err-open_map
returns-in_err-open_map g c = let whole = not_opened {takes = at_entries g.E.EntryConsumer.takes} g.met.E.EntryConsumer.laws c.args.consumer.now _ _ _ c.in_err-open_map.ensures in search rules

pub loop-key-init : goal.loop-key-init
loop-key-init g c = begins g.met.E.EntryConsumer.laws _ _ _ c.in_ok-open_map.ensures

pub returns-in_err-key : goal.returns-in_err-key
returns-in_err-key g c = let whole = halted g.met.E.EntryConsumer.laws _ _ _ _ _ _ c.loop-key.invariant c.in_err-key.ensures in search rules

pub returns-in_err-entry : goal.returns-in_err-entry
returns-in_err-entry g c =
    let item = rw c.in-Some.is at c.in_ok-key.ensures in
    let whole = stopped g.met.E.EntryConsumer.laws _ _ _ _ _ _ _ _ _ (λ _. refl) c.loop-key.invariant item c.in_err-entry.ensures in search rules

pub loop-key-preserved : goal.loop-key-preserved
loop-key-preserved g c =
    let item = rw c.in-Some.is at c.in_ok-key.ensures in
    taken g.met.E.EntryConsumer.laws _ _ _ _ _ _ _ _ c.loop-key.invariant item c.in_ok-entry.ensures
