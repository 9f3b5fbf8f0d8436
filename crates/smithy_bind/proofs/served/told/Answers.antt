use Rattle.std.proofs.Common.{subst}
use Rattle.smithy_binding.specs.Refusing.{Answers}
use Rattle.smithy_bind.specs.Shown.{shown_response}
use Rattle.smithy_bind.proofs.LineLemmas.{fault_told}
use Rattle.smithy_bind.proofs.served.told.Goals as goal

pub returns-in-Err : goal.returns-in-Err
returns-in-Err c = λ answer is.
    fault_told shown_response c.in-Err.refusal answer c.refused.result (subst (λ m. Answers m answer) c.in-Err.is is) c.refused.ensures
