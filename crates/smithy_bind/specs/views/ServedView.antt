-- The response that the code writes.
use Rattle.std.specs.Prelude.{ℕ, List, Result}
use Rattle.smithy_types.specs.Documents.{Document}
use Rattle.smithy_http.specs.Responses.{Response}
use Rattle.smithy_schema.specs.References.{schema_of}
use Rattle.smithy_schema.specs.declared.schema_ref.SchemaRef.{SchemaRef}
use Rattle.smithy_serde.specs.Values.{Writes, list_of}
use Rattle.smithy_serde.specs.declared.error.SerdeError.{SerdeError}
use Rattle.smithy_binding.specs.Refusing.{Answers}
use Rattle.smithy_serve.specs.Answer.{answer_response}
use Rattle.smithy_model.specs.declared.error.JobError.{JobError}
use Rattle.smithy_bind.specs.Outcome.{json_bodies}
use Rattle.smithy_bind.specs.Serving.{served_by}
use Rattle.smithy_bind.specs.declared.told.Answer.{Answer}
use Rattle.smithy_bind.specs.views.AnswerView.{Gives}

-- it is the answer to these writes of an output, with bodies of these texts
abbrev pub Serves : (Document → List ℕ) → SchemaRef → Writes → ℕ → Result Answer JobError → Type 0
Serves text schema ws code result = Gives (served_by (json_bodies text) (schema_of schema) (list_of ws) code) result

-- a response with bodies of these texts, or the first fault of its output
abbrev pub IsServed : (Document → List ℕ) → SchemaRef → Writes → ℕ → Result Response SerdeError → Type 0
IsServed text schema ws code result = Answers result (answer_response (json_bodies text) (schema_of schema) (list_of ws) code)
