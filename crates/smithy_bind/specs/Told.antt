-- What can be told of a job.
use Rattle.std.specs.Prelude.{ℕ, List, Option, Some, None, Result, Ok, Err}
use Rattle.std.specs.Option.{option_map_or}
use Rattle.serde_json.specs.Data.{Data}
use Rattle.smithy_json.specs.FromText.{json_of}
use Rattle.smithy_binding.specs.Faults.{Fault}
use Rattle.smithy_bind.specs.Shown.{line_of}

pub data Outcome : Type 0 where
  usage : Outcome
  no_job : Outcome
  fault_line : List ℕ → Outcome
  output : List ℕ → Outcome

-- what was made, as it is shown, or the line of the first fault
abbrev pub told_by : {A : Type 0} → (A → List ℕ) → Result A Fault → Outcome
told_by show (Ok x) = output (show x)
told_by show (Err f) = fault_line (line_of f)

-- what is answered to a job, where there is one
abbrev pub outcome_of : {J : Type 0} → (J → Outcome) → Option J → Outcome
outcome_of answer None = no_job
outcome_of answer (Some j) = answer j

-- what is answered to bytes, by the answer to their JSON value, and by that to bytes that are none
abbrev pub by_json : (Data → Outcome) → Outcome → List ℕ → Outcome
by_json answer unread bytes = option_map_or answer (json_of bytes) unread
