-- The request that a job has.
use Rattle.std.specs.Prelude.{ℕ, codes, List, [], Option, Some, option_map, option_and_then, unwrap_or}
use Rattle.serde_json.specs.Data.{Data}
use Rattle.serde_json.specs.Find.{get}
use Rattle.smithy_types.specs.Grammars.{is_token, is_legal_target}
use Rattle.smithy_http.specs.Requests.{Request, request_of}
use Rattle.smithy_model.specs.Json.{text_at, provided}
use Rattle.smithy_job.specs.Responses.{headers_given, body_given}

-- a token (RFC 7230, section 3.2.6)
abbrev pub method_in : Data → Option (List ℕ)
method_in d = option_and_then (λ method. provided (is_token method) (Some method)) (text_at (codes "method") d)

-- the bytes of a body, none where it is absent or null
abbrev pub bytes_given : Option Data → Option (List ℕ)
bytes_given given = option_map (λ body. unwrap_or body []) (body_given given)

-- a request of these parts, whose target is a legal one (RFC 7230, section 5.3)
abbrev pub request_with : List ℕ → List ℕ → List (List ℕ × List ℕ) → List ℕ → Option Request
request_with method target headers body = provided (is_legal_target target) (Some (request_of method target headers body))

-- the request that a JSON value is
unfoldable pub request_in : Data → Option Request
request_in d =
    option_and_then
    (λ method. option_and_then (λ target. option_and_then (λ headers. option_and_then (request_with method target headers) (bytes_given (get (codes "body") d))) (headers_given (get (codes "headers") d))) (text_at (codes "target") d))
    (method_in d)

-- the request that a job has
abbrev pub request_given : Data → Option Request
request_given job = option_and_then request_in (get (codes "request") job)
