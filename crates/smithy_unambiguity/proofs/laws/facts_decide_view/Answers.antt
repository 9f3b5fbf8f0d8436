use Rattle.smithy_unambiguity.proofs.Join.{facts_decide}
use Rattle.smithy_unambiguity.proofs.laws.facts_decide_view.Goals as goal

pub returns : goal.returns
returns g c = facts_decide _ _ (g.met.C.Codec.tells c.args.protocol.now.codec c.requires.lawful)
