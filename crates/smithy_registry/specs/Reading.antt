-- Errors, read by what is registered for their codes.
use Rattle.std.specs.Prelude.{◌≡◌, ℕ, List, Option, Some, None, Result, Ok, Err, IsErr}
use Rattle.std.specs.Option.{option_and_then}
use Rattle.smithy_serde.specs.declared.error.SerdeError.{SerdeError}
use Rattle.smithy_serde.specs.declared.error.SerdeError.TheVariants as refusal
use Rattle.smithy_serde.specs.Held.{Held}
use Rattle.smithy_serde.specs.ReadCalls.{AtHand}
use Rattle.smithy_serde.specs.ReadsBy.{ReadsBy}
use Rattle.smithy_registry.specs.declared.composed.ComposedRegistry.{ComposedRegistry}
use Rattle.smithy_registry.specs.Registries.{by_code}
use Rattle.smithy_registry.specs.Layers.{in_either}

-- what reads the error of a code, of the first registry that has an entry for it
abbrev pub error_reader_for : {R : Type 0} {g : _} → List ℕ → ComposedRegistry R g → Option R
error_reader_for code registry = option_and_then (λ e. e.error_reader) (in_either (by_code code) registry)

-- what becomes of a reader's answer: a refusal hides the error, unless memory was wanted
abbrev pub Reified : {A E : Type 0} → Result A SerdeError → Result (Option A) E → Type 0
Reified (Ok error) result = result ≡ Ok (Some error)
Reified (Err refusal.OutOfMemory) result = IsErr result
Reified (Err _) result = result ≡ Ok None

-- the reader answers, and its answer is shown; without a reader nothing is read
abbrev pub Reifies : {R A E : Type 0} → (R → Held → Result A SerdeError → Type 0) → Option R → AtHand → AtHand → Result (Option A) E → Type 0
Reifies gives None old new result = (result ≡ Ok None) × (new ≡ old)
Reifies {R} {A} {E} gives (Some reader) old new result = (answer : Result A SerdeError) × ReadsBy (gives reader) old new answer × Reified answer result

-- the error of the code is read by what the registries have for it
abbrev pub ReifiesError : {R A E D : Type 0} {g : _} → (R → Held → Result A SerdeError → Type 0) → (D → AtHand) → ComposedRegistry R g → List ℕ → D → D → Result (Option A) E → Type 0
ReifiesError gives at registry code old new result = Reifies gives (error_reader_for code registry) (at old) (at new) result
