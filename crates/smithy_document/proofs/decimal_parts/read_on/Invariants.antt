use Rattle.smithy_document.proofs.Common.{◌≡◌, ◌-◌, ◌^◌, min, take, digits_value_after}
use Rattle.smithy_document.proofs.decimal_parts.read_on.Given as goal

abbrev pub invariant-loop-b : goal.invariant-loop-b
invariant-loop-b l = l.value ≡ min (digits_value_after 10 l.start (take l.b-index l.digits)) (2 ^ 128 - 1)
