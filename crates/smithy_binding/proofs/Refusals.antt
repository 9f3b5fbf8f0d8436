-- What follows from a refusal.
use Rattle.smithy_binding.proofs.Common.{◌≡◌, Result, Ok, Err, IsErr, IfErr, Table, SerdeError, Fault, TellsFault, Answers}
use Rattle.smithy_serde.specs.declared.error.SerdeError.TheVariants.{UnknownMember, InvalidInput, UnsupportedOperation, Custom, OutOfMemory}

-- what follows from a fault that is told
pub TellsFault-then : (e : SerdeError) (P Q : Fault → Type 0) → ((f : Fault) → P f → Q f) → TellsFault e P → TellsFault e Q
TellsFault-then (UnknownMember t) P Q h p = h _ p
TellsFault-then (InvalidInput t) P Q h p = h _ p
TellsFault-then (UnsupportedOperation t) P Q h p = h _ p
TellsFault-then (Custom t) P Q h p = h _ p
TellsFault-then OutOfMemory P Q h p = p
TellsFault-then _ P Q h p = p

pub IfErr-then : {A : Type 0} (r : Result A SerdeError) (P Q : Fault → Type 0) → ((f : Fault) → P f → Q f) → IfErr r (λ e. TellsFault e P) → IfErr r (λ e. TellsFault e Q)
IfErr-then (Ok x) P Q h p = p
IfErr-then (Err e) P Q h p = TellsFault-then e P Q h p

-- the same for every table
pub IfErr-each : {A : Type 0} (r : Result A SerdeError) (P Q : Table → Fault → Type 0) → ((t : Table) (f : Fault) → P t f → Q t f) → IfErr r (λ e. (t : Table) → TellsFault e (P t))
    → IfErr r (λ e. (t : Table) → TellsFault e (Q t))
IfErr-each (Ok x) P Q h p = p
IfErr-each (Err e) P Q h p = λ t. TellsFault-then e (P t) (Q t) (h t) (p t)

-- the same for one table
pub IfErr-at : {A : Type 0} (r : Result A SerdeError) (P : Table → Fault → Type 0) (t : Table) → IfErr r (λ e. (t : Table) → TellsFault e (P t)) → IfErr r (λ e. TellsFault e (P t))
IfErr-at (Ok x) P t p = p
IfErr-at (Err e) P t p = p t

-- a refusal is the answer, where the fault that it tells is
pub Answers-err : {A : Type 0} (r : Result A SerdeError) (P : Fault → Type 0) (answer : Result A Fault) → IsErr r → ((f : Fault) → P f → answer ≡ Err f) → IfErr r (λ e. TellsFault e P) → Answers r answer
Answers-err (Ok x) P answer err h p = absurd (cc err)
Answers-err (Err e) P answer err h p = TellsFault-then e P (λ f. answer ≡ Err f) h p
