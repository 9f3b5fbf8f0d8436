use Rattle.smithy_wire.proofs.Common.{◌≡◌, ◌-◌, ◌^◌, take}
use Rattle.std.proofs.Common.{min}
use Rattle.std.specs.Str.Parse.{digits_value_after}
use Rattle.smithy_wire.proofs.whole_parts.read_on.Given as goal

abbrev pub invariant-loop-b : goal.invariant-loop-b
invariant-loop-b l = l.value ≡ min (digits_value_after 10 l.start (take l.b-index l.digits)) (2 ^ 128 - 1)
