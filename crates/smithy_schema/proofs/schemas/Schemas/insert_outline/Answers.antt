use Rattle.smithy_schema.specs.views.References.{schema_of}
use Rattle.smithy_schema.proofs.KeptLemmas as kept
use Rattle.smithy_schema.proofs.schemas.Schemas.insert_outline.Goals as goal

pub invariant_of-self-2 : goal.invariant_of-self-2
invariant_of-self-2 c =
    rw (c.in_ok-push.ensures.items, c.make_room.ensures) (kept.IsKept-outlined c.self.inside.nodes.items c.in_ok-node.node (schema_of c.args.schema).node _ c.self.invariant c.in_ok-node.ensures.node c.in_ok-node.ensures.whole c.in_ok-node.ensures.details)
