-- What is answered to an output (Smithy, HTTP protocol bindings).
use Rattle.std.specs.Prelude.{ℕ, List, if◌then◌else◌}
use Rattle.smithy_schema.specs.Nodes.{Schema}
use Rattle.smithy_serde.specs.Values.{Write}
use Rattle.smithy_binding.specs.CheckedOutput.{checked_output}
use Rattle.smithy_binding.specs.Placing.{Protocol}
use Rattle.smithy_serve.specs.Answer.{answer_response}
use Rattle.smithy_job.specs.Answering.{Answering}
use Rattle.smithy_bind.specs.Shown.{shown_response}
use Rattle.smithy_bind.specs.Told.{Outcome, no_job, told_by}

-- the answer to writes of an output, by a protocol; a schema that no response can be written by makes none
unfoldable pub served_by : Protocol → Schema → List Write → ℕ → Outcome
served_by protocol schema ws code =
    if checked_output schema then told_by shown_response (answer_response protocol schema ws code) else no_job

-- the answer to a job, by a protocol
abbrev pub served_job : Protocol → Answering → Outcome
served_job protocol j = served_by protocol j.output.schema j.output.writes j.code
