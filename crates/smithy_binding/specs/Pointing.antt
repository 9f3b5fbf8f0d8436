-- What pointing a request at an endpoint does.
use Rattle.std.specs.Prelude.{◌≡◌, ◌≢◌, ℕ, codes, List, [], ◌∷◌, ◌++◌, map, Option, unwrap_or, Ok, Err}
use Rattle.smithy_binding.specs.Words.{str_to_ascii_lowercase, without, Request, Answer}
use Rattle.smithy_http.specs.Endpoints.{Endpoint, SetsEndpoint}
use Rattle.smithy_http.specs.Refusals.{refusal_text}
use Rattle.smithy_http.specs.declared.error.HttpError.{HttpError}
use Rattle.smithy_http.specs.declared.error.HttpError.TheVariants as error
use Rattle.smithy_binding.specs.Faults.{Fault, custom, message}
use Rattle.smithy_binding.specs.Refusing.{TellsFault}

-- a header with its name in lower case
abbrev pub in_lower_case : List ℕ × List ℕ → List ℕ × List ℕ
in_lower_case pair = (str_to_ascii_lowercase pair.0, pair.1)

-- the pairs of no name that the others have
abbrev pub without_all : List (List ℕ × List ℕ) → List (List ℕ × List ℕ) → List (List ℕ × List ℕ)
without_all [] pairs = pairs
without_all (other ∷ others) pairs = without_all others (without (str_to_ascii_lowercase other.0) pairs)

-- the others in place of the pairs of their names, behind the pairs that stay
abbrev pub overridden : List (List ℕ × List ℕ) → List (List ℕ × List ℕ) → List (List ℕ × List ℕ)
overridden others pairs = without_all others pairs ++ map in_lower_case others

-- the target is joined to the endpoint and its headers override the request's
abbrev pub pointed : Endpoint → List ℕ → Request → Request
pointed endpoint target request = record request { target = target; headers = overridden endpoint.headers request.headers }

-- the target was not joined
abbrev pub endpoint_fault : List ℕ → HttpError → Fault
endpoint_fault url refusal = custom (message (codes "failed to apply endpoint `" ∷ url ∷ codes "`: " ∷ refusal_text refusal ∷ []))

-- The request is pointed at the endpoint; or it is as it was, and the answer tells why its target was not joined. Want of memory is free.
abbrev pub IsPointed : Request → Endpoint → Option (List ℕ) → Request → Answer → Type 0
IsPointed old endpoint prefix new (Ok _) =
    (target : List ℕ) × SetsEndpoint endpoint.url (unwrap_or prefix []) old.target (Ok target) × (new ≡ pointed endpoint target old)
IsPointed old endpoint prefix new (Err e) =
    (new ≡ old)
    × TellsFault e (λ f. (refusal : HttpError) × (refusal ≢ error.OutOfMemory) × SetsEndpoint endpoint.url (unwrap_or prefix []) old.target (Err refusal) × (f ≡ endpoint_fault endpoint.url refusal))
