use Rattle.smithy_schema.proofs.WellMadeLemmas.{found-well_made}
use Rattle.smithy_schema.proofs.schemas.Schemas.get.Goals as goal

pub returns-clause-well_made : goal.returns-clause-well_made
returns-clause-well_made c = found-well_made c.args.self.now c.args.index.0 c.at.result (rw (← c.self.view_is) c.self.invariant.sound) c.at.ensures.node
