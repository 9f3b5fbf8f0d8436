use Rattle.std.proofs.Common.{refl}
use Rattle.smithy_json.proofs.OrderLemmas.{named_here, named_later, named_nowhere}
use Rattle.smithy_json.proofs.value.value_named.Goals as goal

pub loop-member-init : goal.loop-member-init
loop-member-init c = refl

pub returns-then-eq : goal.returns-then-eq
returns-then-eq c = named_here _ _ _ c.member-item.result _ c.loop-member-test.true c.member-item.is c.if-eq.ensures c.loop-member.invariant

pub loop-member-preserved : goal.loop-member-preserved
loop-member-preserved c = named_later _ _ _ c.member-item.result _ c.loop-member-test.true c.member-item.is c.if-eq.ensures c.loop-member.invariant

pub returns : goal.returns
returns c = named_nowhere _ _ _ _ c.loop-member-test.false c.loop-member.invariant
