use Rattle.smithy_response.proofs.Common.{subst, IfOk, Result, Ok, Err}
use Rattle.smithy_response.proofs.response_protocol.ResponseProtocol.deserialize_error_response.Goals as goal

-- what holds of an answer holds of it in other words
reworded : {A E : Type 0} (P Q : A → Type 0) → ((a : A) → P a → Q a) → (r : Result A E) → IfOk r P → IfOk r Q
reworded P Q f (Ok a) p = f a p
reworded P Q f (Err e) p = _

pub returns-clause-reader : goal.returns-clause-reader
returns-clause-reader g c =
    let told = subst (λ s. IfOk c.deserialize_response.result (g.Self.ResponseProtocol.reads c.args.self.now c.args.response.now s c.args.policy))
    c.prelude-schema.ensures.node c.deserialize_response.ensures.reader in
    reworded _ _ (λ r. g.met.Self.ResponseProtocol.by_default c.args.self.now c.args.response.now c.args.policy r) c.deserialize_response.result told
