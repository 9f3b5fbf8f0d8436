use Rattle.std.proofs.Common.{◌∷◌, [], ◌++◌}
use Rattle.json.specs.Token as token
use Rattle.smithy_document.proofs.PrintLemmas.{printed}
use Rattle.smithy_bind.proofs.LineWrites.{behind, wrote}
use Rattle.smithy_bind.specs.Lines.{bytes_value}
use Rattle.smithy_bind.specs.views.LineView.{data_tokens}
use Rattle.smithy_bind.proofs.line.write_header.Goals as goal

pub returns : goal.returns
returns c =
    let r = c.end_array.result in
    let new = c.end_array.new.self in
    let value = data_tokens (bytes_value c.args.value.now) in
    behind (token.begin_array ∷ []) (token.string c.args.name.now ∷ value ++ token.end_array ∷ []) r c.args.writer.now c.begin_array.new.self new (wrote c.in_ok-begin_array.ensures)
    (behind (token.string c.args.name.now ∷ []) (value ++ token.end_array ∷ []) r c.begin_array.new.self c.string.new.self new (wrote c.in_ok-string.ensures)
    (behind value (token.end_array ∷ []) r c.string.new.self c.write_bytes.new.writer new c.in_ok-write_bytes.ensures (printed r c.write_bytes.new.writer new token.end_array c.end_array.ensures)))
