use Rattle.std.proofs.Common.{◌∷◌, []}
use Rattle.json.specs.Token as token
use Rattle.smithy_document.proofs.PrintLemmas.{printed}
use Rattle.smithy_bind.proofs.LineWrites.{behind, wrote}
use Rattle.smithy_bind.proofs.line.write_text.Goals as goal

pub returns : goal.returns
returns c =
    behind (token.key c.args.name.now ∷ []) (token.string c.args.text.now ∷ []) c.string.result c.args.writer.now c.key.new.self c.string.new.self (wrote c.in_ok-key.ensures)
    (printed c.string.result c.key.new.self c.string.new.self (token.string c.args.text.now) c.string.ensures)
