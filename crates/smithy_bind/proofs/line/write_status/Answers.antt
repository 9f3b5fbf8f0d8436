use Rattle.std.proofs.Common.{◌∷◌, [], codes, decimal}
use Rattle.json.specs.Token as token
use Rattle.smithy_document.proofs.PrintLemmas.{printed}
use Rattle.smithy_bind.proofs.LineWrites.{behind, wrote}
use Rattle.smithy_bind.proofs.line.write_status.Goals as goal

pub returns : goal.returns
returns c =
    let r = c.u64.result in
    let new = c.u64.new.self in
    let last = token.number (decimal c.args.status) ∷ [] in
    behind (token.begin_object ∷ []) (token.key (codes "status") ∷ last) r c.args.writer.now c.begin_object.new.self new (wrote c.in_ok-begin_object.ensures)
    (behind (token.key (codes "status") ∷ []) last r c.begin_object.new.self c.key.new.self new (wrote c.in_ok-key.ensures) (printed r c.key.new.self new (token.number (decimal c.args.status)) c.u64.ensures))
