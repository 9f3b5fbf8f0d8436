use Rattle.smithy_serde.specs.StructValues.{members_of}
use Rattle.smithy_bind.specs.Outcome.{called}
use Rattle.smithy_bind.proofs.WriteLemmas.{writes_listed}
use Rattle.smithy_bind.proofs.sending.input_told.Goals as goal

pub returns-in-Rpc : goal.returns-in-Rpc
unfolding called
returns-in-Rpc g c = rw c.in-Rpc.is (rw (writes_listed (members_of c.args.input.now)) (c.told-in-Rpc.ensures _ c.posted.ensures))
