-- What a serializer finishes with that was told one value.
use Rattle.std.proofs.Common.{◌≡◌, ◌∙◌, sym, subst, ◌⊎◌, inl, inr, ℕ, List, Option, None, Some, Result, Ok, Err, IfOk, IfErr}
use Rattle.smithy_serde.specs.declared.error.SerdeError.{SerdeError}
use Rattle.smithy_serde.specs.declared.error.SerdeError.TheVariants.{OutOfMemory}
use Rattle.smithy_serde.specs.Values.{Label, Value}
use Rattle.smithy_serde.specs.Told.{empty_state, written}
use Rattle.smithy_serde.specs.DocumentOf.{DocumentFault, document_fault}
use Rattle.smithy_serde.specs.Finishing.{Finishes, IsReady, IsTextOf}
use Rattle.smithy_serde.specs.Refusing.{IsFaultRefusal}
use Rattle.smithy_serde.specs.Writing.{Seen, TellsOne}

-- nothing is open in it
pub none_open : {U : Type 0} (l : Label) (v : Value) (a b : Seen) (u : U) → IsReady a → TellsOne l v a b (Ok u) → b.lists ≡ 0
none_open l v a b u ready told = told.outcome.lists ∙ sym (a.as_many empty_state ready.told)

-- it finishes with the value's text
pub text_finished : {U : Type 0} (l : Label) (v : Value) (a b : Seen) (u : U) (result : Result (List ℕ) SerdeError) →
    IsReady a → TellsOne l v a b (Ok u) → Finishes b result → IfOk result (IsTextOf a.text v)
text_finished l v a b u (Ok bytes) ready told finished =
    subst (λ text. IsTextOf text v bytes) told.same.text
    (finished.1 (told.same.lawful ready.lawful) (written l v empty_state) (told.outcome.states empty_state ready.told))
text_finished l v a b u (Err e) ready told finished = tt

memory_alone : (fault : Option DocumentFault) (e : SerdeError) (kept : Option SerdeError) → kept ≡ None → (e ≡ OutOfMemory) ⊎ (kept ≡ Some e) → IsFaultRefusal fault e
memory_alone fault e kept none (inl is) = rw is tt
memory_alone fault e kept none (inr is) = absurd (cc (sym none ∙ is))

-- it is refused for memory alone
pub memory_finished : {U : Type 0} (l : Label) (v : Value) (a b : Seen) (u : U) (result : Result (List ℕ) SerdeError) →
    IsReady a → TellsOne l v a b (Ok u) → Finishes b result → IfErr result (IsFaultRefusal (document_fault v))
memory_finished l v a b u (Ok bytes) ready told finished = tt
memory_finished l v a b u (Err e) ready told finished =
    memory_alone (document_fault v) e b.refusal told.outcome.unrefused.1 (finished (told.same.lawful ready.lawful))
