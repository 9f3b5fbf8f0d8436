use Rattle.std.proofs.Common.{◌≡◌, ◌∷◌, [], ℕ, List, codes, rules, subst}
use Rattle.json.specs.Token as token
use Rattle.serde_json.specs.Data.{string, object, no_members, member}
use Rattle.smithy_serde.specs.DocumentOf.{base64}
use Rattle.smithy_document.specs.views.Printing.{Prints}
use Rattle.smithy_document.proofs.PrintLemmas.{printed}
use Rattle.smithy_bind.proofs.LineWrites.{behind, wrote}
use Rattle.smithy_bind.specs.views.LineView.{data_tokens}
use Rattle.smithy_bind.proofs.line.write_base64.Goals as goal

pub returns : goal.returns
returns c =
    let same : c.as_str.result.now ≡ base64 c.args.bytes.now = search rules in
    let r = c.end_object.result in
    let new = c.end_object.new.self in
    let text = c.as_str.result.now in
    subst (λ (s : List ℕ). Prints (data_tokens (object (member (codes "base64") (string s) no_members))) c.args.writer.now new r) same
    (behind (token.begin_object ∷ []) (token.key (codes "base64") ∷ token.string text ∷ token.end_object ∷ []) r c.args.writer.now c.begin_object.new.self new (wrote c.in_ok-begin_object.ensures)
    (behind (token.key (codes "base64") ∷ []) (token.string text ∷ token.end_object ∷ []) r c.begin_object.new.self c.key.new.self new (wrote c.in_ok-key.ensures)
    (behind (token.string text ∷ []) (token.end_object ∷ []) r c.key.new.self c.string.new.self new (wrote c.in_ok-string.ensures) (printed r c.string.new.self new token.end_object c.end_object.ensures))))
