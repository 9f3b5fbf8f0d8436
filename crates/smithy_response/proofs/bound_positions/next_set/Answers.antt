use Rattle.std.proofs.Common.{refl, arith, ◌/◌, ◌^◌}
use Rattle.std.proofs.lemmas.Nat.{trailing_le}
use Rattle.smithy_response.proofs.BoundBits.{none_past, none_left, next_left}
use Rattle.smithy_response.proofs.bound_positions.next_set.Goals as goal

pub returns-then-from-ge64-clause-next : goal.returns-then-from-ge64-clause-next
returns-then-from-ge64-clause-next c = none_past c.args.bits c.args.from c.ranges.bits.fits c.if-from-ge64.true

pub returns-then-left-eq0-clause-next : goal.returns-then-left-eq0-clause-next
returns-then-left-eq0-clause-next c = none_left c.args.bits c.args.from c.if-left-eq0.true

pub returns-clause-next : goal.returns-clause-next
returns-clause-next c = next_left c.args.bits c.args.from _ c.if-left-eq0.false c.ranges.bits.fits refl

pub returns-clause-fits : goal.returns-clause-fits
returns-clause-fits c = let few = trailing_le 64 (c.args.bits / 2 ^ c.args.from) in omega (arith, few, c.if-from-ge64.false)
