use Rattle.std.proofs.Common.{sym, ◌∙◌, ap, Some}
use Rattle.smithy_http.proofs.ItemLemmas.{text_of-utf8, text_of-other}
use Rattle.smithy_recovery.proofs.header_values.text_in.Goals as goal

pub returns-in-Ok : goal.returns-in-Ok
returns-in-Ok c = ap (λ t. Some t) c.in-Ok.ensures.cases.0 ∙ sym (text_of-utf8 c.args.value.now c.in-Ok.ensures.cases.1)

pub returns-in-Err : goal.returns-in-Err
returns-in-Err c = sym (text_of-other c.args.value.now c.in-Err.ensures.cases.0)
