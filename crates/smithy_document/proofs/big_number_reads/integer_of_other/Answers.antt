use Rattle.smithy_document.proofs.Common.{view}
use Rattle.smithy_document.proofs.BigLemmas.{is_number, is_neither}
use Rattle.smithy_document.proofs.big_number_reads.integer_of_other.Goals as goal

pub returns-in-Some : goal.returns-in-Some
returns-in-Some c = rw (← is_number (view c.args.document.now) _ (rw c.in-Some.is at c.as_number.ensures)) c.integer_of_number.ensures

pub returns-in-None : goal.returns-in-None
returns-in-None c = rw ((is_neither (view c.args.document.now) c.requires (rw c.in-None.is at c.as_number.ensures)).0) c.mismatch.ensures
