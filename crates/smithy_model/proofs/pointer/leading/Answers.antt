use Rattle.std.proofs.Common.{◌≡◌, ◌++◌, ◌∷◌, [], ◌∙◌, ap, sym, rules, Option, Some, None, reverse}
use Rattle.smithy_model.specs.views.WrongView.{next_view}
use Rattle.smithy_model.proofs.PointerLemmas.{popped, no_steps, led_stop, led_more, led_end}
use Rattle.smithy_model.proofs.pointer.leading.Goals as goal

pub returns-in_default-led_from : goal.returns-in_default-led_from
returns-in_default-led_from c =
    let popped_step = rw c.in-Some.is at c.pop.ensures.items in
    led_stop (next_view c.walk.here) c.walk.led.items (reverse c.pop.new.self.items) (reverse c.walk.steps.items) _ c.in-Some.step (popped _ _ _ popped_step)
    (rw c.in_default-led_from.is at c.led_from.ensures) c.walk.invariant

pub walk-preserved : goal.walk-preserved
walk-preserved c =
    let popped_step = rw c.in-Some.is at c.pop.ensures.items in
    rw c.in_ok-push.ensures.items
    (led_more (next_view c.walk.here) (next_view c.in-Some-led_from.next) c.walk.led.items (reverse c.pop.new.self.items) (reverse c.walk.steps.items) _ c.in-Some.step (popped _ _ _ popped_step)
    (rw c.in-Some-led_from.is at c.led_from.ensures) c.walk.invariant)

pub returns : goal.returns
returns c =
    let gone = rw c.in_default.is at c.pop.ensures.cases in
    led_end (next_view c.walk.here) c.walk.led.items (reverse c.walk.steps.items) _ (ap reverse (no_steps _ (sym c.walk.steps.ok.0 ∙ gone.0))) c.walk.invariant
