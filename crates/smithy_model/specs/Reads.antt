-- What a reader answers.
use Rattle.std.specs.Prelude.{◌≡◌, Option, Some, None, Result, Ok, Err}
use Rattle.smithy_json.specs.declared.error.JsonError.{JsonError}
use Rattle.smithy_json.specs.declared.error.JsonError.TheVariants as json_error
use Rattle.smithy_model.specs.declared.error.JobError.{JobError}
use Rattle.smithy_model.specs.declared.error.JobError.TheVariants.{NoJob, OutOfMemory}

-- what is defined, by its view, and a refusal exactly where nothing is; want of memory is free
abbrev pub Reads : {A V : Type 0} → (A → V) → Option V → Result A JobError → Type 0
Reads view defined (Ok a) = defined ≡ Some (view a)
Reads view defined (Err NoJob) = defined ≡ None
Reads view defined (Err OutOfMemory) = Unit {0}

-- what is unreadable is no job
abbrev pub refusal_of_json : JsonError → JobError
refusal_of_json json_error.Unreadable = NoJob
refusal_of_json json_error.OutOfMemory = OutOfMemory
