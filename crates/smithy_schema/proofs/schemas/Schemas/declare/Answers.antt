use Rattle.smithy_schema.proofs.KeptLemmas.{IsKept-declared}
use Rattle.smithy_schema.proofs.schemas.Schemas.declare.Goals as goal

pub invariant_of-self-2 : goal.invariant_of-self-2
invariant_of-self-2 c = rw c.in_ok-push.ensures.items (IsKept-declared c.self.inside.nodes.items c.self.invariant)
