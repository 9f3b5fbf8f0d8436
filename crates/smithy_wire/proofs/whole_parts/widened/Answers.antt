use Rattle.smithy_wire.proofs.Common.{◌∙◌, ap, arith, ◌-◌, ◌*◌, ◌^◌}
use Rattle.std.proofs.Common.{min}
use Rattle.smithy_wire.proofs.WholeLemmas.{no_zeros, past_all}
use Rattle.smithy_wire.proofs.whole_parts.widened.Goals as goal

pub returns-then-number-eq0 : goal.returns-then-number-eq0
returns-then-number-eq0 c = no_zeros c.args.number c.args.zeros c.if-number-eq0.true

pub returns-in-Some : goal.returns-in-Some
returns-in-Some c = c.saturating_mul.ensures ∙ ap (λ n. min (c.args.number * n) (2 ^ 128 - 1)) c.in-Some.ensures.1

pub returns-in-None : goal.returns-in-None
returns-in-None c = past_all c.args.number c.args.zeros (omega (arith, c.if-number-eq0.false)) c.in-None.ensures
