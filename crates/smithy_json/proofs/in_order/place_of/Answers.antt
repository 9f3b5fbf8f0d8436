use Rattle.smithy_json.proofs.OrderLemmas.{past_none, place_before, place_here, place_further, place_end}
use Rattle.smithy_json.proofs.in_order.place_of.Goals as goal

pub loop-place-init : goal.loop-place-init
loop-place-init c = past_none _

pub returns-in-Less : goal.returns-in-Less
returns-in-Less c = place_before _ _ _ _ _ c.loop-place-test.true c.index-members-place.is c.in-Less.ensures c.loop-place.invariant

pub returns-in-Equal : goal.returns-in-Equal
returns-in-Equal c = place_here _ _ _ _ _ c.loop-place-test.true c.index-members-place.is c.in-Equal.ensures c.loop-place.invariant

pub loop-place-preserved : goal.loop-place-preserved
loop-place-preserved c = place_further _ _ _ _ _ c.loop-place-test.true c.index-members-place.is c.in-Greater.ensures c.loop-place.invariant

pub returns : goal.returns
returns c = place_end _ _ _ _ c.loop-place.auto.place-end c.loop-place-test.false c.loop-place.invariant
