-- What a service with bodies of JSON answers (AWS restJson1).
use Rattle.std.specs.Prelude.{◌≡◌, ℕ, true, Result}
use Rattle.smithy_http.specs.Responses.{Response}
use Rattle.smithy_schema.specs.Nodes.{Schema}
use Rattle.smithy_serde.specs.Values.{Writes, list_of}
use Rattle.smithy_serde.specs.declared.error.SerdeError.{SerdeError}
use Rattle.smithy_binding.specs.CheckedOutput.{checked_output}
use Rattle.smithy_binding.specs.Refusing.{Answers}
use Rattle.smithy_serve.specs.Answer.{answer_response}
use Rattle.uses.specs.Answering.{json_bodies}

-- by a schema that a response can be written by, the outcome is the response of the writes of a structure, or their first fault
abbrev pub RestResponds : Schema → Writes → ℕ → Result Response SerdeError → Type 0
RestResponds schema ws code result =
    checked_output schema ≡ true → Answers result (answer_response json_bodies schema (list_of ws) code)
