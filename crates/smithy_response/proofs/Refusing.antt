-- A refusal as the answer that was expected.
use Rattle.smithy_response.proofs.Common.{◌≡◌, inl, inr, Result, Err, sym, ap, ◌∙◌, SerdeError, IsAnswer, IsRefusal}

pub refused_answer : {A : Type 0} {r : Result A SerdeError} {x e : SerdeError} → r ≡ Err x → IsRefusal x e → IsAnswer r (Err e)
refused_answer is (inl same) = inl (ap Err same ∙ sym is)
refused_answer is (inr memory) = inr (ap Err memory)
