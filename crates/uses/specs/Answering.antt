-- What protocols with bodies of JSON answer (AWS restJson1).
use Rattle.std.specs.Prelude.{◌≡◌, ℕ, codes, false, true, List, [], Result, Ok}
use Rattle.smithy_document.specs.JsonText.{json_text}
use Rattle.smithy_http.specs.Requests.{Request}
use Rattle.smithy_schema.specs.Nodes.{Schema}
use Rattle.smithy_serde.specs.Values.{Write, Writes, list_of}
use Rattle.smithy_serde.specs.declared.error.SerdeError.{SerdeError}
use Rattle.smithy_binding.specs.Answer.{answer}
use Rattle.smithy_binding.specs.Checked.{checked_input}
use Rattle.smithy_binding.specs.Placing.{Protocol, OmitFlags}
use Rattle.smithy_binding.specs.Refusing.{Answers}
use Rattle.smithy_binding.specs.Rpc.{rpc_answer}
use Rattle.smithy_job.specs.Jobs.{Job}
use Rattle.uses.specs.GetObject as model

-- their content type, and the text of a document
abbrev pub json_bodies : Protocol
json_bodies = record { content_type = codes "application/json"; text_of = json_text }

-- no default header is left out
abbrev pub keep_all : OmitFlags
keep_all = record { content_type = false; content_length = false }

-- by a schema that a request can be placed by, the outcome is the request of these writes, or their first fault
abbrev pub IsAnswer : Schema → List Write → List ℕ → OmitFlags → Result Request SerdeError → Type 0
IsAnswer schema ws endpoint omit result =
    checked_input schema ≡ true → Answers result (answer json_bodies schema ws endpoint omit)

-- the same of the writes of a structure
abbrev pub RestAnswers : Schema → Writes → List ℕ → OmitFlags → Result Request SerdeError → Type 0
RestAnswers schema ws endpoint omit result = IsAnswer schema (list_of ws) endpoint omit result

-- both requests are those of two inputs of one schema, without an endpoint
abbrev pub BothAnswer : Schema → Writes → Writes → OmitFlags → Request × Request → Type 0
BothAnswer schema first second omit both = RestAnswers schema first [] omit (Ok both.0) × RestAnswers schema second [] omit (Ok both.1)

-- the same of an input of the model that is made in code, whose schema is one
abbrev pub RestAnswersModel : Writes → Result Request SerdeError → Type 0
RestAnswersModel ws result =
    Answers result (answer json_bodies (model.schema_at model.input_node) (list_of ws) [] keep_all)

-- the outcome is the call with these writes as its body, or their first fault
abbrev pub RpcAnswers : Writes → List ℕ → OmitFlags → Result Request SerdeError → Type 0
RpcAnswers ws endpoint omit result = Answers result (rpc_answer json_bodies ws endpoint omit)

-- the outcome is what REST answers to a job
abbrev pub AnswersJob : Result Request SerdeError → Job → Type 0
AnswersJob outcome j = IsAnswer j.schema j.writes j.endpoint j.omit outcome
