use Rattle.smithy_recovery.proofs.Law.{recovered_is_exact}
use Rattle.smithy_recovery.proofs.laws.recovered_is_exact.Goals as goal

pub returns : goal.returns
returns g c = λ schema endpoint. recovered_is_exact _ (g.met.C.Codec.tells c.args.protocol.now.codec c.requires.lawful)
