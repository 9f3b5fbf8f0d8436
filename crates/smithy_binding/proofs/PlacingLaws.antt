-- A conforming input has a request.
use Rattle.smithy_binding.proofs.Common.{◌≡◌, refl, List, ℕ, None, Result, Ok, Err, IsSome, result_ok, result_err, then_give, Schema, Write, Request, answer, place, Fault, fault, legal_target, Protocol, OmitFlags}

given_without : (f : List ℕ → Request) (target : Result (List ℕ) Fault) → result_err target ≡ None → IsSome (result_ok (then_give target f))
given_without f (Ok text) e = refl
given_without f (Err fault) e = absurd (cc e)

pub IsSome-place : (protocol : Protocol) (schema : Schema) (ws : List Write) (endpoint : List ℕ) (omit : OmitFlags) → fault schema ws endpoint ≡ None → IsSome (place protocol schema ws endpoint omit)
unfolding answer
IsSome-place protocol schema ws endpoint omit e = given_without _ (legal_target schema ws endpoint) e
