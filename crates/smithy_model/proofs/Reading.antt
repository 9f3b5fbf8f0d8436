-- Refusals that are passed on.
use Rattle.std.proofs.Common.{◌≡◌, Option, None, Err}
use Rattle.smithy_model.specs.Reads.{Reads}
use Rattle.smithy_model.specs.declared.error.JobError.{JobError}
use Rattle.smithy_model.specs.declared.error.JobError.TheVariants.{NoJob, OutOfMemory}

-- what has no answer where a part of it has none
pub refused_by : {A V B W : Type 0} (f : A → V) (g : B → W) (part : Option V) (whole : Option W) (e : JobError) → (part ≡ None → whole ≡ None) → Reads f part (Err e) → Reads g whole (Err e)
refused_by f g part whole NoJob h r = h r
refused_by f g part whole OutOfMemory h r = tt
