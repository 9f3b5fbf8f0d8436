-- The parts of a protocol, and what its calls answer.
use Rattle.std.specs.Prelude.{ℕ, List, Result}
use Rattle.smithy_binding.specs.Words.{Document, SchemaRef, schema_of, Request, Writes, list_of, SerdeError}
use Rattle.smithy_ids.specs.declared.shape_id.ShapeId.{ShapeId}
use Rattle.smithy_binding.specs.Answer.{answer}
use Rattle.smithy_binding.specs.Outputs.{placed_output}
use Rattle.smithy_binding.specs.declared.output.PlacedOutput.{PlacedOutput}
use Rattle.smithy_binding.specs.Placing.{Protocol, OmitFlags}
use Rattle.smithy_binding.specs.Refusing.{Answers}
use Rattle.smithy_binding.specs.Rpc.{rpc_answer}

-- its name, what writes its bodies, and their content type
pub record Parts (C : Type 0) : Type 0 where
  pub protocol_id : ShapeId
  pub codec : C
  pub content_type : List ℕ

-- the protocol of these parts, with the texts of its codec
abbrev pub protocol_of : {C : Type 0} → (C → Document → List ℕ) → Parts C → Protocol
protocol_of text p = record { content_type = p.content_type; text_of = text p.codec }

-- an outcome of code is the request of an input, placed by its schema, or the input's first fault
abbrev pub AnswersBy : {C : Type 0} → (C → Document → List ℕ) → Parts C → SchemaRef → Writes → List ℕ → OmitFlags → Result Request SerdeError → Type 0
AnswersBy text p schema ws endpoint omit result = Answers result (answer (protocol_of text p) (schema_of schema) (list_of ws) endpoint omit)

-- an outcome of code is what an output has in a response by its schema, or the output's first fault
abbrev pub AnswersOutput : {C : Type 0} → (C → Document → List ℕ) → Parts C → SchemaRef → Writes → Result PlacedOutput SerdeError → Type 0
AnswersOutput text p schema ws result = Answers result (placed_output (protocol_of text p) (schema_of schema) (list_of ws))

-- an outcome of code is the request of an input that is posted whole, or the input's first fault
abbrev pub AnswersCall : {C : Type 0} → (C → Document → List ℕ) → Parts C → Writes → List ℕ → OmitFlags → Result Request SerdeError → Type 0
AnswersCall text p ws endpoint omit result = Answers result (rpc_answer (protocol_of text p) ws endpoint omit)
