-- An operation that was read once, and what is made of its inputs.
use Rattle.std.specs.Prelude.{◌≡◌, ℕ, Bool, List, [], ◌∷◌, ◌++◌, map, Vec, Option, Result, IsTrue, option_map}
use Rattle.std.specs.declared.alloc.Global.{Global}
use Rattle.serde_json.specs.Data.{Data}
use Rattle.smithy_types.specs.Documents.{Document}
use Rattle.smithy_http.specs.Requests.{Request}
use Rattle.smithy_schema.specs.Nodes.{Table}
use Rattle.smithy_serde.specs.Values.{Write}
use Rattle.smithy_serde.specs.declared.error.SerdeError.{SerdeError}
use Rattle.smithy_serde.specs.declared.value.WriteList.{WriteList}
use Rattle.smithy_binding.specs.Answer.{answer}
use Rattle.smithy_binding.specs.Checked.{checked_input}
use Rattle.smithy_binding.specs.Faults.{Fault}
use Rattle.smithy_binding.specs.Refusing.{Answers}
use Rattle.smithy_model.specs.declared.error.JobError.{JobError}
use Rattle.smithy_job.specs.Common.{Common}
use Rattle.smithy_job.specs.CommonView.{IsCommon, writes_seen}
use Rattle.smithy_job.specs.Tables.{ReadsAs}
use Rattle.smithy_bind.specs.Lines.{answer_line}
use Rattle.smithy_bind.specs.Outcome.{json_bodies}
use Rattle.smithy_bind.specs.Requesting.{answer_for, lines_for}
use Rattle.smithy_bind.specs.views.LineView.{IsMade}
use Rattle.smithy_bind.specs.declared.requested.ReadOperation.{ReadOperation}

-- the operation of jobs with this in common, by whose schema a request can be placed
pub record IsOperation (stored : ReadOperation) (is : Common) : Type 0 where
  pub common : IsCommon stored.common is
  pub checked : IsTrue (checked_input is.schema)

-- it was read of some jobs
abbrev pub IsRead : ReadOperation → Type 0
IsRead stored = (is : Common) × IsOperation stored is

-- the request of an input or its first fault, with bodies of these texts; no job is a value without the form of an input
abbrev pub PlacesInput : (Document → List ℕ) → ReadOperation → Data → Result (Result Request SerdeError) JobError → Type 0
PlacesInput text stored d result = (is : Common) → IsOperation stored is → ReadsAs Answers (answer_for (json_bodies text) is d) result

-- the lines of inputs, with bodies of these texts
abbrev pub TellsInputs : (Document → List ℕ) → ReadOperation → List Data → Vec ℕ Global → Type 0
TellsInputs text stored ds lines = (is : Common) → IsOperation stored is → lines.items ≡ lines_for (json_bodies text) is ds

-- the lines, and behind them those of inputs, with bodies of these texts
abbrev pub TellsBehind : (Document → List ℕ) → ReadOperation → List Data → Vec ℕ Global → Vec ℕ Global × Bool → Type 0
TellsBehind text stored ds lines more = (is : Common) → IsOperation stored is → more.0.items ≡ lines.items ++ lines_for (json_bodies text) is ds

-- the request of writes or their first fault
abbrev pub answer_with : (Document → List ℕ) → Common → List Write → Result Request Fault
answer_with text c ws = answer (json_bodies text) c.schema ws c.endpoint c.omit

-- it is what comes of the writes of an input, over these nodes
abbrev pub MakesInput : (Document → List ℕ) → ReadOperation → Table → Option WriteList → Option (Result Request SerdeError) → Type 0
MakesInput text stored nodes writes made = (is : Common) → IsOperation stored is → IsMade made (option_map (answer_with text is) (writes_seen nodes writes))

-- the lines, and behind them that of what comes of the writes of an input, over these nodes
abbrev pub AddsLine : (Document → List ℕ) → ReadOperation → Table → Option WriteList → Vec ℕ Global → Vec ℕ Global → Type 0
AddsLine text stored nodes writes lines more =
    (is : Common) → IsOperation stored is → more.items ≡ lines.items ++ answer_line (option_map (answer_with text is) (writes_seen nodes writes))

-- the lines of what comes of writes
abbrev pub lines_with : (List Write → Result Request Fault) → List (Option (List Write)) → List ℕ
lines_with f [] = []
lines_with f (w ∷ ws) = answer_line (option_map f w) ++ lines_with f ws

-- the lines, and behind them those of what comes of the writes of inputs, over these nodes
abbrev pub MakesLines : (Document → List ℕ) → ReadOperation → Table → Vec (Option WriteList) Global → Vec ℕ Global → Vec ℕ Global → Type 0
MakesLines text stored nodes each lines more = (is : Common) → IsOperation stored is → more.items ≡ lines.items ++ lines_with (answer_with text is) (map (writes_seen nodes) each.items)
