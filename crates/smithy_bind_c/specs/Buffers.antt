-- The answer to a job, in a buffer of the caller.
use Rattle.std.specs.Prelude.{◌≡◌, ℕ, List, ◌++◌, length, drop, nat_le, Some, if◌then◌else◌}
use Rattle.smithy_bind.specs.Ends.{code_of, due_of, text_of, IsInMemory, IsSettled, HasText}
use Rattle.smithy_bind.specs.Outcome.{outcome_by}
use Rattle.smithy_bind.specs.declared.command.Command.{Command}
use Rattle.smithy_bind.specs.declared.ended.Status.{Status}

-- a buffer after a text was written to its front, where it fits
abbrev pub filled : List ℕ → List ℕ → List ℕ
filled text buffer =
    if nat_le (length text) (length buffer) then text ++ drop (length text) buffer else buffer

-- how a command answers a job: its end and its text, and by them the result, the length that is told, and the buffer
pub record Answers (command : Command) (job : List ℕ) (code len : ℕ) (before after : List ℕ) : Type 0 where
  pub status : Status
  pub text : List ℕ
  pub memory : IsInMemory status
  pub due : IsSettled status → status ≡ due_of command job
  pub of_outcome : HasText status (text_of (outcome_by (Some command) job)) text
  pub is_code : code ≡ code_of status
  pub is_len : len ≡ length text
  pub is_filled : after ≡ filled text before
