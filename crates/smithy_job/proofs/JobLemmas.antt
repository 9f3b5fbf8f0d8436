-- The job of a JSON value, from its parts.
use Rattle.std.proofs.Common.{◌≡◌, refl, ℕ, codes, List, Option, Some, None, option_map, Result, Err}
use Rattle.serde_json.specs.Data.{Data}
use Rattle.smithy_serde.specs.declared.header_omit_settings.OmitFlags.{OmitFlags}
use Rattle.smithy_model.specs.Models as models
use Rattle.smithy_model.specs.declared.error.JobError.{JobError}
use Rattle.smithy_model.specs.declared.error.JobError.TheVariants.{NoJob, OutOfMemory}
use Rattle.smithy_model.specs.declared.floats.Floats.{Floats}
use Rattle.smithy_job.specs.Jobs as jobs
use Rattle.smithy_job.specs.Jobs.{written, job_with, job_with_floats}
use Rattle.smithy_job.specs.Settings.{endpoint, omit}
use Rattle.smithy_job.specs.views.JobView.{IsJob}
use Rattle.smithy_job.specs.views.Tables.{Has, ReadsAs}
use Rattle.smithy_job.specs.views.WrittenView.{IsWritten}
use Rattle.smithy_job.specs.declared.reading.Job.{Job}
use Rattle.smithy_job.specs.declared.written.Written.{Written}
use Rattle.smithy_job.proofs.ReceivedLemmas.{none-mapped}

module _ (floats : Floats) (d : Data) (text : List ℕ) (flags : OmitFlags) (e : endpoint d ≡ Some text) (o : omit d ≡ Some flags) where
  by_parts : job_with_floats floats d ≡ job_with floats d text flags
  unfolding job_with_floats
  by_parts = rw (e, o) refl

  -- of the writes that were read
  pub job-so : (stored : Job) (w : Written) → stored.table ≡ w.table → stored.index ≡ w.index → stored.further ≡ w.further → stored.writes ≡ w.writes → stored.endpoint.now ≡ text → stored.omit ≡ flags
      → Has (written floats models.input (codes "input") d) (IsWritten w) → Has (job_with_floats floats d) (IsJob stored)
  job-so stored w table index further writes same left h = rw by_parts (go (written floats models.input (codes "input") d) h)
    where
      go : (r : Option jobs.Written) → Has r (IsWritten w) → Has (option_map (λ x. record { schema = x.schema; writes = x.writes; endpoint = text; omit = flags }) r) (IsJob stored)
      go None none = absurd none
      go (Some r) some = record {
        schema = rw (table, index) some.schema;
        writes = rw (table, further, writes) some.writes;
        endpoint = same;
        omit = left;
        node = rw (table, index, further) some.node;
        defined = rw (table, further, writes) some.defined;
      }

  -- writes that are refused
  pub job-refused : (x : JobError) (r : Result Job JobError) → r ≡ Err x → ReadsAs IsWritten (written floats models.input (codes "input") d) (Err x) → ReadsAs IsJob (job_with_floats floats d) r
  job-refused NoJob r is h = rw (is, by_parts) (none-mapped _ (written floats models.input (codes "input") d) h)
  job-refused OutOfMemory r is h = rw is tt
