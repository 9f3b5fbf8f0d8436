use Rattle.std.proofs.Common.{◌≡◌, ◌<◌, ◌^◌, drop}
use Rattle.std.specs.Str.Parse.{digits_value_after}
use Rattle.smithy_types.proofs.number_text.read_on.Given as goal

abbrev pub invariant-loop-b : goal.invariant-loop-b
invariant-loop-b l = (l.value < 2 ^ 128) × (digits_value_after 10 l.value (drop l.b-index l.digits) ≡ digits_value_after 10 l.start l.digits)
