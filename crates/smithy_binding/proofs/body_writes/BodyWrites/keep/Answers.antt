use Rattle.smithy_binding.proofs.KeptSteps.{defined-push}
use Rattle.smithy_binding.proofs.body_writes.BodyWrites.keep.Goals as goal

pub returns-in_ok-push-in-Body-clause-defined : goal.returns-in_ok-push-in-Body-clause-defined
returns-in_ok-push-in-Body-clause-defined c = λ t all one. record { unbound = defined-push t _ _ _ c.in_ok-push-in-Body.ensures.items all.unbound one; payload = all.payload }
