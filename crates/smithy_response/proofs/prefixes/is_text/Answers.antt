use Rattle.smithy_response.proofs.Common.{sym}
use Rattle.smithy_response.proofs.Texts.{utf8, not_utf8}
use Rattle.smithy_response.proofs.prefixes.is_text.Goals as goal

pub returns-in-Ok : goal.returns-in-Ok
returns-in-Ok c = sym (utf8 c.args.value.now c.in-Ok.ensures.cases.1)

pub returns-in-Err : goal.returns-in-Err
returns-in-Err c = sym (not_utf8 c.args.value.now c.in-Err.ensures.cases.0)
