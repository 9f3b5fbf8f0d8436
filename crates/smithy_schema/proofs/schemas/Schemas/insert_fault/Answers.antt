use Rattle.smithy_schema.proofs.KeptLemmas as kept
use Rattle.smithy_schema.proofs.schemas.Schemas.insert_fault.Goals as goal

pub returns : goal.returns
returns c = rw (← c.self.view_is) (kept.fresh _ _ c.args.schema.now _ c.as_slice-nodes.ensures.value c.cited_fault.ensures)
