use Rattle.std.proofs.Common.{◌∷◌, [], codes}
use Rattle.json.specs.Token as token
use Rattle.smithy_document.proofs.PrintLemmas.{printed}
use Rattle.smithy_bind.proofs.LineWrites.{behind}
use Rattle.smithy_bind.specs.views.LineView.{status_tokens}
use Rattle.smithy_bind.proofs.line.write_fault.Goals as goal

pub returns : goal.returns
returns c =
    let r = c.end_object.result in
    let new = c.end_object.new.self in
    let key = token.key (codes "fault") in
    let words = token.string c.args.words.now in
    behind (status_tokens 3) (key ∷ words ∷ token.end_object ∷ []) r c.args.writer.now c.write_status.new.writer new c.in_ok-write_status.ensures
    (behind (key ∷ words ∷ []) (token.end_object ∷ []) r c.write_status.new.writer c.write_text.new.writer new c.in_ok-write_text.ensures
    (printed r c.write_text.new.writer new token.end_object c.end_object.ensures))
