-- What the placing of writes by a plan answers.
use Rattle.std.specs.Prelude.{ℕ, List, Result}
use Rattle.smithy_binding.specs.Words.{Document, schema_of, Request, Writes, list_of, SerdeError}
use Rattle.smithy_binding.specs.Answer.{answer}
use Rattle.smithy_binding.specs.Placing.{Protocol}
use Rattle.smithy_binding.specs.Refusing.{Answers}
use Rattle.smithy_binding.specs.declared.place.Plan.{Plan}

-- the protocol of a plan, where documents have these texts
abbrev pub planned : (Document → List ℕ) → Plan → Protocol
planned text plan = record { content_type = plan.content_type.now; text_of = text }

-- an outcome of code is the answer to the writes
abbrev pub AnswersPlan : (Document → List ℕ) → Plan → Writes → Result Request SerdeError → Type 0
AnswersPlan text plan ws result = Answers result (answer (planned text plan) (schema_of plan.schema) (list_of ws) plan.endpoint.now plan.omit)
