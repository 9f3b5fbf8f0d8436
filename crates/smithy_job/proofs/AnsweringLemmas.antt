-- The job of an output, from its parts.
use Rattle.std.proofs.Common.{◌≡◌, refl, ℕ, ◌≤◌, codes, Option, Some, None, option_map, Result, Err}
use Rattle.serde_json.specs.Data.{Data}
use Rattle.smithy_model.specs.Models as models
use Rattle.smithy_model.specs.declared.floats.Floats.TheVariants.{Kept}
use Rattle.smithy_model.specs.declared.error.JobError.{JobError}
use Rattle.smithy_model.specs.declared.error.JobError.TheVariants.{NoJob, OutOfMemory}
use Rattle.smithy_job.specs.Answering.{answering, answering_with, code_asked}
use Rattle.smithy_job.specs.Jobs as jobs
use Rattle.smithy_job.specs.Jobs.{written}
use Rattle.smithy_job.specs.views.Tables.{Has, ReadsAs}
use Rattle.smithy_job.specs.views.WrittenView.{IsAnswering, IsWritten}
use Rattle.smithy_job.specs.declared.answering.Answering.{Answering}
use Rattle.smithy_job.specs.declared.written.Written.{Written}
use Rattle.smithy_job.proofs.ReceivedLemmas.{none-mapped}

-- a status that is none
pub no_code : (d : Data) → code_asked d ≡ None → answering d ≡ None
unfolding answering
no_code d e = rw e refl

module _ (d : Data) (n : ℕ) (given : code_asked d ≡ Some n) where
  by_code : answering d ≡ answering_with d n
  unfolding answering
  by_code = rw given refl

  pub answering-so : (w : Written) → (100 ≤ n) × (n ≤ 999) → Has (written Kept models.output (codes "output") d) (IsWritten w) → Has (answering d) (IsAnswering (record { output = w; code = n }))
  answering-so w digits h = rw by_code (go (written Kept models.output (codes "output") d) h)
    where
      go : (r : Option jobs.Written) → Has r (IsWritten w) → Has (option_map (λ x. record { output = x; code = n }) r) (IsAnswering (record { output = w; code = n }))
      go None none = absurd none
      go (Some r) some = record { output = some; code = refl; digits = digits }

  -- an output that is refused
  pub answering-refused : (x : JobError) (r : Result Answering JobError) → r ≡ Err x → ReadsAs IsWritten (written Kept models.output (codes "output") d) (Err x) → ReadsAs IsAnswering (answering d) r
  answering-refused NoJob r is h = rw (is, by_code) (none-mapped _ (written Kept models.output (codes "output") d) h)
  answering-refused OutOfMemory r is h = rw is tt
