use Rattle.std.proofs.Common.{ℕ, List, subst}
use Rattle.json.specs.Token as token
use Rattle.serde_json.specs.Data.{string}
use Rattle.smithy_http.proofs.ItemLemmas.{text_of-utf8, text_of-other}
use Rattle.smithy_document.specs.views.Printing.{Prints}
use Rattle.smithy_document.proofs.PrintLemmas.{printed}
use Rattle.smithy_bind.specs.views.LineView.{data_tokens}
use Rattle.smithy_bind.proofs.line.write_bytes.Goals as goal

pub returns-in-Ok : goal.returns-in-Ok
returns-in-Ok c =
    rw (text_of-utf8 c.args.bytes.now c.in-Ok.ensures.cases.1)
    (subst (λ (s : List ℕ). Prints (data_tokens (string s)) c.args.writer.now c.string.new.self c.string.result) c.in-Ok.ensures.cases.0
    (printed c.string.result c.args.writer.now c.string.new.self (token.string c.in-Ok.text.now) c.string.ensures))

pub returns-in-Err : goal.returns-in-Err
returns-in-Err c = rw (text_of-other c.args.bytes.now c.in-Err.ensures.cases.0) c.write_base64.ensures
