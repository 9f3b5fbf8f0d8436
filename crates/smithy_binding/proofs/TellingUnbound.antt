-- A loop that tells the writes of the body.
use Rattle.smithy_binding.proofs.Common.{◌≡◌, refl, ap, sym, ◌∙◌, arith, ℕ, ◌<◌, List, [], ◌∷◌, length, get_or, Option, Some, None, Result, Ok, Err, IfOk, IfErr, option_map, subst, zero, suc, unwrap_or, map-append, result_ok, result_err, Table, SerdeError, Value, writes_of, DocumentFault, document_fault, document_fault_text, IsFaultRefusal, IsTextOf, IsDefined, TellsInOrder, text_of_document, custom, fault_of_document, TellsFault, write_in, unbound_in, told, AreDefinedWrites}
use Rattle.smithy_types.specs.Documents.{Document}
use Rattle.smithy_serde.proofs.InOrder.{writes_of-append}
use Rattle.smithy_serde.specs.declared.error.SerdeError.TheVariants.{Custom, OutOfMemory}
use Rattle.smithy_binding.specs.declared.body_writes.BodyWrite.{BodyWrite}

pub told_in_order : (t : Table) → TellsInOrder (told t)
told_in_order t = record { none = refl; more = λ us vs. ap writes_of (map-append (write_in t) us vs) ∙ writes_of-append (unbound_in t us) (unbound_in t vs) }

-- the value of a write at a place is defined
pub defined-at : (t : Table) (us : List BodyWrite) (i : ℕ) (u : BodyWrite) → AreDefinedWrites t us → i < length us → u ≡ get_or us i u → IsDefined t u.value.now
defined-at t [] i u all l e = absurd (omega (arith, l))
defined-at t (x ∷ xs) zero u all l e = subst (λ (w : BodyWrite). IsDefined t w.value.now) (sym e) all.0
defined-at t (x ∷ xs) (suc i) u all l e = defined-at t xs i u all.1 (omega (arith, l)) e

-- a refusal for a rule of documents tells the fault of the body
pub refused-document : {A : Type 0} (r : Result A SerdeError) (v : Value) → IfErr r (IsFaultRefusal (document_fault v)) → IfErr r (λ e. TellsFault e (λ f. fault_of_document (Some v) ≡ Some f))
refused-document (Ok x) v h = tt
refused-document (Err e) v h = go e h
  where
    rule : (o : Option DocumentFault) (message : List ℕ) → option_map document_fault_text o ≡ Some message → option_map (λ f. custom (document_fault_text f)) o ≡ Some (custom message)
    rule None message h = absurd (cc h)
    rule (Some f) message h = let same : document_fault_text f ≡ message = cc h in ap (λ (t : List ℕ). Some (custom t)) same

    go : (e : SerdeError) → IsFaultRefusal (document_fault v) e → TellsFault e (λ f. fault_of_document (Some v) ≡ Some f)
    go (Custom message) h = rule (document_fault v) message h
    go OutOfMemory h = tt
    go _ h = absurd h

-- the text of a value breaks no rule
pub text-fault : {E : Type 0} (r : Result (List ℕ) E) (text : Document → List ℕ) (v : Value) → IfOk r (IsTextOf text v) → IfOk r (λ b. fault_of_document (Some v) ≡ None)
text-fault (Err e) text v h = tt
text-fault (Ok b) text v h = ap (λ o. option_map (λ f. custom (document_fault_text f)) (result_err o)) h.1

-- and is the body
pub text-bytes : {E : Type 0} (r : Result (List ℕ) E) (text : Document → List ℕ) (v : Value) → IfOk r (IsTextOf text v) → IfOk r (λ b. b ≡ text_of_document text (Some v))
text-bytes (Err e) text v h = tt
text-bytes (Ok b) text v h = h.2 ∙ sym (ap (λ o. unwrap_or (option_map text (result_ok o)) []) h.1)
