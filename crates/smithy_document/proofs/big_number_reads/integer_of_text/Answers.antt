use Rattle.smithy_document.proofs.Common.{sym, ◌∙◌, big_integer_of_text, big_integer}
use Rattle.smithy_document.proofs.BigLemmas.{gives_memory, none_passes, integer_given}
use Rattle.smithy_document.proofs.big_number_reads.integer_of_text.Goals as goal

pub returns-in-Err : goal.returns-in-Err
returns-in-Err c = gives_memory big_integer (big_integer_of_text c.args.text.now) c.in-Err.error c.in-Err.ensures.memory

pub returns-in-Some : goal.returns-in-Some
returns-in-Some c = integer_given c.args.text.now _ (sym c.in-Some.is ∙ c.in-Ok.ensures.parsed)

pub integer_part-requires : goal.integer_part-requires
integer_part-requires c = none_passes _ c.args.text.now (sym c.in-None.is ∙ c.in-Ok.ensures.parsed)

pub returns-in-None : goal.returns-in-None
returns-in-None c = c.integer_part.ensures
