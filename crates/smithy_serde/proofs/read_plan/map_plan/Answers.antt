use Rattle.smithy_serde.proofs.ReadValue.{map_planned}
use Rattle.smithy_serde.proofs.read_plan.map_plan.Goals as goal

pub returns : goal.returns
returns c = map_planned _ _ _ _ _ c.in-Some.ensures c.in-Some-value.ensures c.own_place.ensures c.own_place-2.ensures
