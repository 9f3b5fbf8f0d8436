-- What a reader of JSON answers.
use Rattle.std.specs.Prelude.{◌≡◌, Option, Some, None, Result, Ok, Err}
use Rattle.smithy_json.specs.declared.error.JsonError.{JsonError}
use Rattle.smithy_json.specs.declared.error.JsonError.TheVariants.{Unreadable, OutOfMemory}

-- what is defined, by its view, and a refusal exactly where nothing is; want of memory is free
abbrev pub Reads : {A V : Type 0} → (A → V) → Option V → Result A JsonError → Type 0
Reads view defined (Ok a) = defined ≡ Some (view a)
Reads view defined (Err Unreadable) = defined ≡ None
Reads view defined (Err OutOfMemory) = Unit {0}
