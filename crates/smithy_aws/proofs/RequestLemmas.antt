-- Requests that are made in steps, and what is refused before them.
use Rattle.std.proofs.Common.{◌≡◌, refl, sym, ap, subst, ◌∙◌, ◌⊎◌, inl, inr, Option, Some, None, Result, Ok, Err}
use Rattle.std.specs.Prelude.{IsErrAnd}
use Rattle.smithy_types.specs.Results.{then_give, then_try}
use Rattle.smithy_http.specs.Requests.{Request}
use Rattle.smithy_serde.specs.declared.error.SerdeError.{SerdeError}
use Rattle.smithy_serde.specs.declared.error.SerdeError.TheVariants.{OutOfMemory}
use Rattle.smithy_binding.specs.Faults.{Fault}
use Rattle.smithy_binding.specs.Refusing.{Answers, TellsFault}
use Rattle.smithy_binding.proofs.Refusals.{TellsFault-then}
use Rattle.smithy_wire.specs.views.MisfitView.{TellsMisfit}
use Rattle.smithy_aws.specs.Requests.{fault_in, following}

-- ---- steps

-- a refusal that is passed on
pub passed_on : {A : Type 0} (answer : Result A Fault) (e : SerdeError) (result : Result A SerdeError) → IsErrAnd result (λ y. y ≡ e)
    → TellsFault e (λ f. answer ≡ Err f) → Answers result answer
passed_on answer e (Ok v) same told = absurd same
passed_on answer e (Err y) same told = subst (λ z. TellsFault z (λ f. answer ≡ Err f)) (sym same) told

-- what comes of the value of a step, and of its refusal
pub tried : {A B : Type 0} (a : Result A Fault) (f : A → Result B Fault) (x : A) (result : Result B SerdeError) → a ≡ Ok x → Answers result (f x)
    → Answers result (then_try a f)
tried a f x result is told = subst (λ o. Answers result (then_try o f)) (sym is) told

pub not_tried : {A B : Type 0} (a : Result A Fault) (f : A → Result B Fault) (e : SerdeError) (result : Result B SerdeError) → IsErrAnd result (λ y. y ≡ e)
    → TellsFault e (λ x. a ≡ Err x) → Answers result (then_try a f)
not_tried a f e result same told =
    passed_on (then_try a f) e result same (TellsFault-then e (λ x. a ≡ Err x) (λ x. then_try a f ≡ Err x) (λ x is. ap (λ o. then_try o f) is) told)

-- want of memory is free
pub without_memory : {A : Type 0} (answer : Result A Fault) (result : Result A SerdeError) → IsErrAnd result (λ y. y ≡ OutOfMemory) → Answers result answer
without_memory answer result same = passed_on answer OutOfMemory result same tt

-- nothing is done to a value
pub given_alone : {A E : Type 0} (a : Result A E) → then_give a (λ x. x) ≡ a
given_alone (Ok x) = refl
given_alone (Err e) = refl

-- ---- values that don't follow their nodes

-- the first of them is refused: what is told is the fault of its refusal
pub not_followed : (told : Option SerdeError) (r : Request) (e x : SerdeError) → TellsMisfit {A = Unit {0}} told (Err e) → TellsFault x (λ f. f ≡ fault_in e)
    → (e ≡ OutOfMemory → x ≡ OutOfMemory) → TellsFault x (λ f. following told r ≡ Err f)
not_followed told r e x (inl is) fault memory =
    TellsFault-then x (λ f. f ≡ fault_in e) (λ f. following told r ≡ Err f) (λ f same. ap (λ o. following o r) is ∙ ap (λ h. Err h) (sym same)) fault
not_followed told r e x (inr m) fault memory = subst (λ z. TellsFault z (λ f. following told r ≡ Err f)) (sym (memory m)) tt

-- there is none
pub followed : (told : Option SerdeError) (r : Request) → told ≡ None → following told r ≡ Ok r
followed told r none = ap (λ o. following o r) none
