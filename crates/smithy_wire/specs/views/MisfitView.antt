-- What a test of a body's values answers.
use Rattle.std.specs.Prelude.{◌≡◌, ◌⊎◌, List, ℕ, Option, Some, None, option_map, Result, Ok, Err}
use Rattle.smithy_serde.specs.Values.{Value, Write, scalar}
use Rattle.smithy_serde.specs.declared.error.SerdeError.TheVariants.{OutOfMemory}
use Rattle.smithy_wire.specs.Words.{Schema, SerdeError, option_or}
use Rattle.smithy_wire.specs.Forms.{Form, part_form}
use Rattle.smithy_wire.specs.Misfits.{behind, in_field, misfit, misfit_told, outer_misfit, wrong_name, wrong_scalar}
use Rattle.smithy_wire.specs.declared.misfit.Misfit.{Misfit}
use Rattle.smithy_wire.specs.declared.misfit.Refused.{Refused}
use Rattle.smithy_wire.specs.declared.misfit.Refused.TheVariants as refused

-- this place, or want of memory
abbrev pub TellsOf : Misfit → Refused → Type 0
TellsOf m (refused.Misfit n) = m ≡ n
TellsOf m refused.OutOfMemory = Unit {0}

-- what is to be found, and nothing exactly where nothing is; want of memory is free
abbrev pub Finds : {A : Type 0} → Option Misfit → Result A Refused → Type 0
Finds found (Ok u) = found ≡ None
Finds found (Err (refused.Misfit m)) = found ≡ Some m
Finds found (Err refused.OutOfMemory) = Unit {0}

-- of a scalar
abbrev pub FindsText : {A : Type 0} → Form → Value → Result A Refused → Type 0
FindsText f (scalar s) result = Finds (wrong_scalar f s) result
FindsText f v result = Unit {0}

-- of a member that is told by a name, and the same from its structure
abbrev pub FindsNamed : {A : Type 0} → Form → List ℕ → Value → Result A Refused → Type 0
FindsNamed f name v result = Finds (option_or (wrong_name f name) (misfit (part_form f name) v)) result

abbrev pub FindsField : {A : Type 0} → Form → List ℕ → Value → Result A Refused → Type 0
FindsField f name v result = Finds (in_field f name (misfit (part_form f name) v)) result

-- of a write of an input
abbrev pub FindsOuter : {A : Type 0} → Schema → Write → Result A Refused → Type 0
FindsOuter schema w result = Finds (outer_misfit schema w.label w.value) result

-- what was found, from one step further out
abbrev pub FindsBehind : {A : Type 0} → List ℕ → Result A Refused → Result A Refused → Type 0
FindsBehind step tried result = (found : Option Misfit) → Finds found tried → Finds (behind step found) result

-- the refusal of what is to be found, and none exactly where nothing is; want of memory is free
abbrev pub TellsFound : {A : Type 0} → Option Misfit → Result A SerdeError → Type 0
TellsFound found (Ok u) = found ≡ None
TellsFound found (Err e) = (option_map misfit_told found ≡ Some e) ⊎ (e ≡ OutOfMemory)

-- this refusal, and none exactly where there is none; want of memory is free
abbrev pub TellsMisfit : {A : Type 0} → Option SerdeError → Result A SerdeError → Type 0
TellsMisfit told (Ok u) = told ≡ None
TellsMisfit told (Err e) = (told ≡ Some e) ⊎ (e ≡ OutOfMemory)
