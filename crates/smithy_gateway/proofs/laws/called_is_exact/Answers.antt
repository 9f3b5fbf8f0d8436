use Rattle.smithy_gateway.proofs.CallExact.{called_exactly}
use Rattle.smithy_gateway.proofs.laws.called_is_exact.Goals as goal

pub returns : goal.returns
returns g c = λ schema endpoint. called_exactly _ _ (g.met.C.Codec.tells c.args.rest.now.codec c.requires.lawful) (g.met.D.Codec.tells c.args.rpc.now.codec c.requires.lawful_rpc)
