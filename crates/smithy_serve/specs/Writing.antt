-- What the writing of a response answers.
use Rattle.std.specs.Prelude.{ℕ, List, Result}
use Rattle.smithy_types.specs.Documents.{Document}
use Rattle.smithy_http.specs.Responses.{Response}
use Rattle.smithy_schema.specs.References.{schema_of}
use Rattle.smithy_schema.specs.declared.schema_ref.SchemaRef.{SchemaRef}
use Rattle.smithy_serde.specs.Values.{Writes, list_of}
use Rattle.smithy_serde.specs.declared.error.SerdeError.{SerdeError}
use Rattle.smithy_binding.specs.Protocols.{Parts, protocol_of}
use Rattle.smithy_binding.specs.Refusing.{Answers}
use Rattle.smithy_serve.specs.Answer.{answer_response}

-- an outcome of code is the response of an output, by its schema, or the output's first fault
abbrev pub WritesBy : {C : Type 0} → (C → Document → List ℕ) → Parts C → SchemaRef → Writes → ℕ → Result Response SerdeError → Type 0
WritesBy text p schema ws code result = Answers result (answer_response (protocol_of text p) (schema_of schema) (list_of ws) code)
