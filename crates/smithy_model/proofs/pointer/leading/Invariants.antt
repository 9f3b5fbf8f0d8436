use Rattle.std.proofs.Common.{◌≡◌, ◌++◌, length, reverse}
use Rattle.smithy_json.specs.views.JsonView.{view}
use Rattle.smithy_model.specs.Wrong.{leading, leading_from}
use Rattle.smithy_model.specs.views.WrongView.{next_view}
use Rattle.smithy_model.proofs.pointer.leading.Given as goal

abbrev pub invariant-walk : goal.invariant-walk
invariant-walk l = l.led.items ++ leading_from (next_view l.here) (reverse l.steps.items) ≡ leading (view l.value) (reverse l.fn.steps.items)

abbrev pub decreases-walk : goal.decreases-walk
decreases-walk l = length l.steps.items
