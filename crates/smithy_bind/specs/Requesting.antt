-- What is answered to many inputs of one operation.
use Rattle.std.specs.Prelude.{ℕ, List, [], ◌∷◌, ◌++◌, Option, Some, option_map, option_and_then, Result, if◌then◌else◌}
use Rattle.serde_json.specs.Data.{Data}
use Rattle.smithy_http.specs.Requests.{Request}
use Rattle.smithy_binding.specs.Answer.{answer}
use Rattle.smithy_binding.specs.Checked.{checked_input}
use Rattle.smithy_binding.specs.Faults.{Fault}
use Rattle.smithy_binding.specs.Placing.{Protocol}
use Rattle.smithy_model.specs.Json.{provided}
use Rattle.smithy_job.specs.Common.{Common, Many, common, job_for}
use Rattle.smithy_job.specs.Jobs.{Job}
use Rattle.smithy_bind.specs.Lines.{answer_line}
use Rattle.smithy_bind.specs.Told.{Outcome, no_job, output}

-- an operation that a request of an input can be placed by
abbrev pub operation_of : Option Common → Option Common
operation_of c = option_and_then (λ c. provided (checked_input c.schema) (Some c)) c

unfoldable pub operation : Data → Option Common
operation job = operation_of (common job)

-- the request of a job, or its first fault
abbrev pub answer_of : Protocol → Job → Result Request Fault
answer_of protocol j = answer protocol j.schema j.writes j.endpoint j.omit

-- that of one input; none where the value has not the form of an input
abbrev pub answer_for : Protocol → Common → Data → Option (Result Request Fault)
answer_for protocol c d = option_map (answer_of protocol) (job_for c d)

-- a line for each input, in order
abbrev pub lines_for : Protocol → Common → List Data → List ℕ
lines_for protocol c [] = []
lines_for protocol c (d ∷ ds) = answer_line (answer_for protocol c d) ++ lines_for protocol c ds

-- the answer to many inputs, by a protocol; a schema that no request can be placed by makes none
unfoldable pub requested_by : Protocol → Many → Outcome
requested_by protocol m = if checked_input m.common.schema then output (lines_for protocol m.common m.inputs) else no_job
