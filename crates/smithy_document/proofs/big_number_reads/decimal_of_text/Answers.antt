use Rattle.smithy_document.proofs.Common.{sym, ◌∙◌, big_decimal_of_text, big_decimal}
use Rattle.smithy_document.proofs.BigLemmas.{gives_memory, decimal_given, decimal_none}
use Rattle.smithy_document.proofs.big_number_reads.decimal_of_text.Goals as goal

pub returns-in-Err : goal.returns-in-Err
returns-in-Err c = gives_memory big_decimal (big_decimal_of_text c.args.text.now) c.in-Err.error c.in-Err.ensures.memory

pub returns-in-Some : goal.returns-in-Some
returns-in-Some c = decimal_given c.args.text.now _ (sym c.in-Some.is ∙ c.in-Ok.ensures.parsed)

pub returns-in-None : goal.returns-in-None
returns-in-None c = decimal_none c.args.text.now _ (sym c.in-None.is ∙ c.in-Ok.ensures.parsed) c.not_parsed.ensures
