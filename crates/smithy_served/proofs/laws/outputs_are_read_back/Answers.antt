use Rattle.smithy_served.proofs.FullBack.{outputs_are_read_back, outputs_are_read_back_beside}
use Rattle.smithy_served.proofs.laws.outputs_are_read_back.Goals as goal

pub returns-clause-own : goal.returns-clause-own
returns-clause-own g c = outputs_are_read_back _ _ (g.met.C.Codec.tells c.args.protocol.now.codec c.requires.lawful)

pub returns-clause-beside : goal.returns-clause-beside
returns-clause-beside g c = outputs_are_read_back_beside _ _ (g.met.C.Codec.tells c.args.protocol.now.codec c.requires.lawful)
