use Rattle.smithy_document.proofs.Common.{sym, ◌∙◌, big_integer_of_text, big_integer}
use Rattle.smithy_document.proofs.BigLemmas.{gives_memory, part_none, part_given}
use Rattle.smithy_document.proofs.big_number_reads.integer_part.Goals as goal

pub returns-in-Err : goal.returns-in-Err
returns-in-Err c = gives_memory big_integer (big_integer_of_text c.args.text.now) c.in-Err.error c.in-Err.ensures.memory

pub returns-in-Some : goal.returns-in-Some
returns-in-Some c = part_given c.args.text.now _ c.truncated.result c.requires (sym c.in-Some.is ∙ c.in-Ok.ensures.parsed) c.truncated.ensures

pub returns-in-None : goal.returns-in-None
returns-in-None c = part_none c.args.text.now _ c.requires (sym c.in-None.is ∙ c.in-Ok.ensures.parsed) c.not_parsed.ensures
