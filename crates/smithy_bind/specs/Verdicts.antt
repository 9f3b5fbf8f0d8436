-- What `explain` tells, beside the outcome of the command whose job it is about.
use Rattle.std.specs.Prelude.{◌≡◌, ◌≢◌, ◌↔◌, ℕ, List, Bool, true, is_some, Some, None, IsTrue}
use Rattle.std.specs.List.{list_all}
use Rattle.std.specs.Option.{option_map_or}
use Rattle.serde_json.specs.Data.{Data}
use Rattle.smithy_json.specs.FromText.{json_of}
use Rattle.smithy_job.specs.Common.{are_inputs, many}
use Rattle.smithy_job.specs.Keys.{alone, responses_given}
use Rattle.smithy_job.specs.declared.job_kind.JobKind.{JobKind}
use Rattle.smithy_job.specs.declared.job_kind.JobKind.TheVariants as kind
use Rattle.smithy_bind.specs.Commands.{command_for}
use Rattle.smithy_bind.specs.Explaining.{explained, job_line, not_json}
use Rattle.smithy_bind.specs.Outcome.{outcome_by}
use Rattle.smithy_bind.specs.Responding.{reply_to}
use Rattle.smithy_bind.specs.Told.{no_job, output}
use Rattle.smithy_bind.specs.declared.command.Command.TheVariants.{Explain}

-- each response of many is one of a job that can be read
abbrev pub are_replied : Data → List Data → Bool
are_replied job items = list_all (λ item. is_some (reply_to (alone job item))) items

-- each of many inputs has the form of one, and each of many responses is one that can be read; else there is one job, which the
-- command's outcome is about
abbrev pub has_inputs : JobKind → Data → Bool
has_inputs kind.Requests d = option_map_or (λ m. are_inputs m.common m.inputs) (many d) true
has_inputs kind.Responses d = option_map_or (are_replied d) (responses_given d) true
has_inputs _ d = true

-- neither the command nor, of many inputs or responses, a line of it answers that there is no job
pub record IsAnswered (kind : JobKind) (bytes : List ℕ) : Type 0 where
  pub command : outcome_by (Some (command_for kind)) bytes ≢ no_job
  pub inputs : IsTrue (option_map_or (has_inputs kind) (json_of bytes) true)

pub record Explains (kind : JobKind) (bytes : List ℕ) : Type 0 where
  pub answer : outcome_by (Some (Explain kind)) bytes ≡ output (explained kind bytes)
  -- they are a job exactly where its command does not answer that they are none, nor that one of their inputs or responses is none
  pub job : explained kind bytes ≡ job_line ↔ IsAnswered kind bytes
  -- they are told to be no JSON exactly where no value is read
  pub not_json : explained kind bytes ≡ not_json bytes ↔ json_of bytes ≡ None

-- so it is for each command of a job, whatever the bytes
abbrev pub ExplainIsExact : Type 0
ExplainIsExact = (kind : JobKind) (bytes : List ℕ) → Explains kind bytes
