-- The request of an input, or its first fault.
use Rattle.std.specs.Prelude.{ℕ, List, length, Result, Ok, Option}
use Rattle.smithy_binding.specs.Words.{then_give, Schema, Write, Request}
use Rattle.std.specs.Result.{result_ok}
use Rattle.smithy_binding.specs.Bindings.{headers}
use Rattle.smithy_binding.specs.Bodies.{body, is_codec}
use Rattle.smithy_binding.specs.Faults.{Fault, behind, legal_fault, legal_target}
use Rattle.smithy_binding.specs.Placing.{Protocol, OmitFlags, method_of, with_defaults}

-- the request of an input whose target is this one
abbrev pub request_at : Protocol → Schema → List Write → OmitFlags → List ℕ → Request
request_at protocol schema ws omit target =
    let b = body protocol.text_of schema ws in
    record { method = method_of schema; target = target; headers = with_defaults protocol.content_type (is_codec b.form) (length b.bytes) omit (headers schema ws); body = b.bytes }

-- the request of these parts, if its target is legal
abbrev pub legal_request : List ℕ → List ℕ → List (List ℕ × List ℕ) → List ℕ → Result Request Fault
legal_request method target headers body =
    then_give (behind (legal_fault target) (Ok target)) λ t. record { method = method; target = t; headers = headers; body = body }

-- The request of an input, by a protocol, or the first fault of the input.
unfoldable pub answer : Protocol → Schema → List Write → List ℕ → OmitFlags → Result Request Fault
answer protocol schema ws endpoint omit = then_give (legal_target schema ws endpoint) (request_at protocol schema ws omit)

-- the request, where the input has no fault
abbrev pub place : Protocol → Schema → List Write → List ℕ → OmitFlags → Option Request
place protocol schema ws endpoint omit = result_ok (answer protocol schema ws endpoint omit)
