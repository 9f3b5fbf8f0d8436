use Rattle.smithy_unambiguity.proofs.Join.{settles, normal_form_typed}
use Rattle.smithy_unambiguity.proofs.laws.view_settles.Goals as goal

pub returns-clause-settles : goal.returns-clause-settles
returns-clause-settles g c = settles _ _ (g.met.C.Codec.tells c.args.protocol.now.codec c.requires.lawful)

pub returns-clause-typed : goal.returns-clause-typed
returns-clause-typed g c = normal_form_typed _ _ (g.met.C.Codec.tells c.args.protocol.now.codec c.requires.lawful)
