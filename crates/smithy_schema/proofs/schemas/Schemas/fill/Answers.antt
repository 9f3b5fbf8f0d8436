use Rattle.std.proofs.Common.{◌<◌, ap, ◌∙◌, set, length, rules, Some}
use Rattle.smithy_schema.specs.Nodes.{Node}
use Rattle.smithy_schema.specs.views.Stored.{table_stored}
use Rattle.smithy_schema.proofs.KeptLemmas as kept
use Rattle.smithy_schema.proofs.schemas.Schemas.fill.Goals as goal

pub index_mut-requires : goal.index_mut-requires
index_mut-requires c =
    let below : c.args.index.0 < length c.self.inside.nodes.items = kept.within c.self.inside.nodes.items c.args.index.0 c.args.schema (rw (← c.self.view_is) at c.requires) in
    search rules

pub invariant_of-self : goal.invariant_of-self
invariant_of-self c =
    rw c.put.ensures (kept.IsKept-filled c.self.inside.nodes.items c.args.index.0 c.in_ok-node.node c.args.schema c.self.invariant (rw (← c.self.view_is) at c.requires) c.in_ok-node.ensures.node c.in_ok-node.ensures.whole (rw c.as_slice.ensures.value at c.in_ok-node.ensures.members))

pub returns-clause-ok : goal.returns-clause-ok
returns-clause-ok c =
    rw (c.put.ensures, ← c.self.view_is) (kept.table_stored-set c.self.inside.nodes.items c.args.index.0 c.in_ok-node.node ∙ ap (λ (n : Node). set (table_stored c.self.inside.nodes.items) c.args.index.0 (Some n)) c.in_ok-node.ensures.node)
