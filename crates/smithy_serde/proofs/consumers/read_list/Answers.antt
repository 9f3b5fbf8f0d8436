use Rattle.std.proofs.Common.{rules, refl}
use Rattle.smithy_serde.specs.views.Handing.{at_elements}
use Rattle.smithy_serde.proofs.ReadWalk.{not_opened, begins, halted, stopped, taken}
use Rattle.smithy_serde.proofs.consumers.read_list.Goals as goal

pub returns-in_err-open_list : goal.returns-in_err-open_list
returns-in_err-open_list g c = let whole = not_opened {takes = at_elements g.E.ElementConsumer.takes} g.met.E.ElementConsumer.laws c.args.consumer.now _ _ _ c.in_err-open_list.ensures in search rules

pub loop-consumer-init : goal.loop-consumer-init
loop-consumer-init g c = begins g.met.E.ElementConsumer.laws _ _ _ c.in_ok-open_list.ensures

pub returns-in_err-next_element : goal.returns-in_err-next_element
returns-in_err-next_element g c = let whole = halted g.met.E.ElementConsumer.laws _ _ _ _ _ _ c.loop-consumer.invariant c.in_err-next_element.ensures in search rules

pub returns-in_err-element : goal.returns-in_err-element
returns-in_err-element g c =
    let item = rw c.if-branch.true at c.in_ok-next_element.ensures in
    let whole = stopped g.met.E.ElementConsumer.laws _ _ _ _ _ _ _ _ _ (λ _. refl) c.loop-consumer.invariant item c.in_err-element.ensures in search rules

pub loop-consumer-preserved : goal.loop-consumer-preserved
loop-consumer-preserved g c =
    let item = rw c.if-branch.true at c.in_ok-next_element.ensures in
    taken g.met.E.ElementConsumer.laws _ _ _ _ _ _ _ _ c.loop-consumer.invariant item c.in_ok-element.ensures
