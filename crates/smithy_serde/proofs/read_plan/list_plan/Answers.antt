use Rattle.smithy_serde.proofs.ReadValue.{list_planned}
use Rattle.smithy_serde.proofs.read_plan.list_plan.Goals as goal

pub returns-in-Some : goal.returns-in-Some
returns-in-Some c = list_planned _ _ _ c.in-Some.ensures c.own_place.ensures
