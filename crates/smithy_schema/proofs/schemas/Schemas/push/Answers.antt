use Rattle.smithy_schema.proofs.KeptLemmas as kept
use Rattle.smithy_schema.proofs.schemas.Schemas.push.Goals as goal

pub invariant_of-self-2 : goal.invariant_of-self-2
invariant_of-self-2 c =
    rw c.in_ok-push.ensures.items (kept.IsKept-pushed c.self.inside.nodes.items c.in_ok-node.node c.args.schema c.self.invariant (rw (← c.self.view_is) at c.requires) c.in_ok-node.ensures.node c.in_ok-node.ensures.whole (rw c.as_slice.ensures.value at c.in_ok-node.ensures.members))
