use Rattle.smithy_schema.proofs.SoundLemmas.{bare-no_fault}
use Rattle.smithy_schema.proofs.prelude.insert_kind.Goals as goal

pub returns-in-Err-clause-refusal : goal.returns-in-Err-clause-refusal
returns-in-Err-clause-refusal c =
    rw (c.new.ensures, bare-no_fault) at c.in-Err.ensures.fault
