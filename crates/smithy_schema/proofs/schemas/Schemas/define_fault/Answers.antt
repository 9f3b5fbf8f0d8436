use Rattle.smithy_schema.proofs.KeptLemmas as kept
use Rattle.smithy_schema.proofs.schemas.Schemas.define_fault.Goals as goal

pub returns-then-index-nodes : goal.returns-then-index-nodes
returns-then-index-nodes c = rw (← c.self.view_is) (kept.past _ _ c.args.index.0 c.args.schema.now c.as_slice-nodes.ensures.value c.if-index-nodes.true)

pub returns-in-Some : goal.returns-in-Some
returns-in-Some c = rw (← c.self.view_is) (kept.defined _ _ c.args.index.0 c.args.schema.now _ c.as_slice-nodes.ensures.value c.if-index-nodes.false c.in-Some.ensures.node)

pub returns-in-None : goal.returns-in-None
returns-in-None c = rw (← c.self.view_is) (kept.hole _ _ c.args.index.0 c.args.schema.now _ c.as_slice-nodes.ensures.value c.if-index-nodes.false c.in-None.ensures.node c.cited_fault.ensures)
