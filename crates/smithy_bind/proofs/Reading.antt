-- What was read of a source.
use Rattle.std.proofs.Common.{ℕ, ◌∙◌, ◌≤◌, List, [], length, Option, Some, None, sym, arith}
use Rattle.std.proofs.lemmas.List.{append-nil}
use Rattle.smithy_io.specs.Streams.{max_job_len, IsWhole, HasReadPart}

-- all that there was is a part
pub whole_is_part : (before after : Option (List ℕ)) (bytes : List ℕ) → IsWhole before bytes after → length bytes ≤ max_job_len → HasReadPart max_job_len before after
whole_is_part None after bytes whole short = (bytes, omega (arith, short), tt)
whole_is_part (Some all) after bytes whole short = (bytes, omega (arith, short), ([], whole.1, sym (append-nil bytes ∙ whole.0)))
