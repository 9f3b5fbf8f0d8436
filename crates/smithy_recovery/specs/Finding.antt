-- What the reading of a request answers.
use Rattle.std.specs.Prelude.{◌≡◌, ℕ, codes, List, Option, Some, None, Result, Ok, Err}
use Rattle.smithy_serde.specs.declared.error.SerdeError.{SerdeError}
use Rattle.smithy_serde.specs.declared.error.SerdeError.TheVariants as serde_error
use Rattle.smithy_recovery.specs.declared.error.RecoverError.{RecoverError}
use Rattle.smithy_recovery.specs.declared.error.RecoverError.TheVariants.{NotPlaced, OutOfMemory}

-- an outcome of code is what is read: shown equal where it is Ok, none where it is refused, and want of memory is free
abbrev pub Finds : {A B : Type 0} → (A → B) → Result A RecoverError → Option B → Type 0
Finds show (Ok x) read = read ≡ Some (show x)
Finds show (Err NotPlaced) read = read ≡ None
Finds show (Err OutOfMemory) read = Unit {0}

-- the words of a refusal
abbrev pub refusal_text : RecoverError → List ℕ
refusal_text NotPlaced = codes "no typed input has this request"
refusal_text OutOfMemory = codes "out of memory"

-- a refusal of the placing or of a codec's reader: want of memory stays one, and any other says that there is no input
abbrev pub refusal_of : SerdeError → RecoverError
refusal_of serde_error.OutOfMemory = OutOfMemory
refusal_of _ = NotPlaced
