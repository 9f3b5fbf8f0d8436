use Rattle.smithy_document.proofs.Common.{sym, view}
use Rattle.smithy_document.proofs.BigLemmas.{is_string}
use Rattle.smithy_document.proofs.big_number_reads.big_decimal.Goals as goal

pub returns-in-Some : goal.returns-in-Some
returns-in-Some c = rw (← is_string (view c.args.document.now) _ (rw c.in-Some.is at c.as_string.ensures)) c.decimal_of_text.ensures

pub decimal_of_other-requires : goal.decimal_of_other-requires
decimal_of_other-requires c = sym (rw c.in-None.is at c.as_string.ensures)

pub returns-in-None : goal.returns-in-None
returns-in-None c = c.decimal_of_other.ensures
