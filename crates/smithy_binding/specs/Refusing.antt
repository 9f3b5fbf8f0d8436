-- What a refusal of the placing tells.
use Rattle.std.specs.Prelude.{◌≡◌, Result, Ok, Err, Option, Some, None, OnOk, IfErr}
use Rattle.smithy_binding.specs.Words.{SerdeError, Answer}
use Rattle.smithy_serde.specs.declared.error.SerdeError.TheVariants.{UnknownMember, InvalidInput, UnsupportedOperation, Custom, OutOfMemory}
use Rattle.smithy_binding.specs.Faults.{Fault, unknown_member, invalid_input, unsupported, custom}

-- what holds of the fault that a refusal tells; want of memory tells none, and no other refusal comes
abbrev pub TellsFault : SerdeError → (Fault → Type 0) → Type 0
TellsFault (UnknownMember text) P = P (unknown_member text)
TellsFault (InvalidInput text) P = P (invalid_input text)
TellsFault (UnsupportedOperation text) P = P (unsupported text)
TellsFault (Custom text) P = P (custom text)
TellsFault OutOfMemory P = Unit {0}
TellsFault _ P = ⊥

-- the refusal tells this fault
abbrev pub Says : SerdeError → Fault → Type 0
Says e fault = TellsFault e (λ f. f ≡ fault)

-- an outcome of code is this: equal where it is Ok, told where it is refused, and want of memory is free
abbrev pub Answers : {A : Type 0} → Result A SerdeError → Result A Fault → Type 0
Answers (Ok value) answer = answer ≡ Ok value
Answers (Err e) answer = TellsFault e (λ f. answer ≡ Err f)

-- there is a fault, and the refusal tells it
abbrev pub IsTold : Option Fault → SerdeError → Type 0
IsTold fault = λ e. TellsFault e (λ f. fault ≡ Some f)

-- what the test of a value answers: Ok where there is no fault, and else the fault is told
pub record Reports (fault : Option Fault) (result : Answer) : Type 0 where
  pub ok : OnOk result (fault ≡ None)
  pub err : IfErr result (IsTold fault)
