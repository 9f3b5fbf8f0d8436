use Rattle.std.proofs.Common.{◌∷◌, []}
use Rattle.json.specs.Token as token
use Rattle.smithy_document.proofs.PrintLemmas.{printed}
use Rattle.smithy_bind.proofs.LineWrites.{behind}
use Rattle.smithy_bind.specs.views.LineView.{status_tokens}
use Rattle.smithy_bind.proofs.line.write_none.Goals as goal

pub returns : goal.returns
returns c =
    behind (status_tokens 2) (token.end_object ∷ []) c.end_object.result c.args.writer.now c.write_status.new.writer c.end_object.new.self c.in_ok-write_status.ensures
    (printed c.end_object.result c.write_status.new.writer c.end_object.new.self token.end_object c.end_object.ensures)
