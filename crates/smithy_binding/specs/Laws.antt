-- The laws of these definitions, each the contract of a function of the module `laws`.
use Rattle.std.specs.Prelude.{◌≡◌, ◌↔◌, ℕ, List, map, Some, None, IsTrue, IsSome}
use Rattle.smithy_binding.specs.Words.{AreDistinct, Request, Schema, Write}
use Rattle.smithy_binding.specs.Checked.{checked_input, IsCheckedInput}
use Rattle.smithy_binding.specs.CheckedOutput.{checked_output, IsCheckedOutput}
use Rattle.smithy_binding.specs.Broken.{broken_input, broken_output}
use Rattle.smithy_binding.specs.Faults.{fault}
use Rattle.smithy_binding.specs.Answer.{place}
use Rattle.smithy_binding.specs.Placing.{Protocol, OmitFlags}

-- the test of an input schema and its facts say the same
abbrev pub CheckedInputIff : Type 0
CheckedInputIff = (schema : Schema) → IsTrue (checked_input schema) ↔ IsCheckedInput schema

-- the test of an output schema and its facts say the same
abbrev pub CheckedOutputIff : Type 0
CheckedOutputIff = (schema : Schema) → IsTrue (checked_output schema) ↔ IsCheckedOutput schema

-- an input schema breaks no rule exactly where the test passes
abbrev pub BrokenInputIff : Type 0
BrokenInputIff = (schema : Schema) → broken_input schema ≡ None ↔ IsTrue (checked_input schema)

-- an output schema breaks no rule exactly where the test passes
abbrev pub BrokenOutputIff : Type 0
BrokenOutputIff = (schema : Schema) → broken_output schema ≡ None ↔ IsTrue (checked_output schema)

-- an input without a fault has a request
abbrev pub ConformingIsPlaced : Type 0
ConformingIsPlaced =
    (protocol : Protocol) (schema : Schema) (ws : List Write) (endpoint : List ℕ) (omit : OmitFlags) →
    fault schema ws endpoint ≡ None → IsSome (place protocol schema ws endpoint omit)

-- the names of a request's headers, in order
abbrev pub header_names : Request → List (List ℕ)
header_names request = map (λ p. p.0) request.headers

-- a placed request has each header name once
abbrev pub HeadersStandOnce : Type 0
HeadersStandOnce =
    (protocol : Protocol) (schema : Schema) (ws : List Write) (endpoint : List ℕ) (omit : OmitFlags) (request : Request) →
    place protocol schema ws endpoint omit ≡ Some request → AreDistinct (header_names request)
