use Rattle.smithy_wire.proofs.Common.{sym, ap, ◌∙◌, Some}
use Rattle.std.proofs.lemmas.Result.{IfOk-weaker}
use Rattle.smithy_serde.specs.Held as held
use Rattle.smithy_types.specs.Documents as doc
use Rattle.smithy_document.proofs.PrintLemmas.{view-Object}
use Rattle.smithy_wire.specs.views.WireOf.{form_in, style_in}
use Rattle.smithy_wire.proofs.JsonInLemmas.{empty_held, some_held}
use Rattle.smithy_wire.proofs.wire_json.WireJson.read.Goals as goal

pub returns-then-is_empty : goal.returns-then-is_empty
returns-then-is_empty c =
    empty_held (style_in c.args.self.now) (form_in c.args.self.now) c.args.body.now (sym c.is_empty.ensures ∙ c.if-is_empty.true)
    ∙ ap (λ d. Some (held.document d)) (ap doc.object (sym c.new.ensures) ∙ sym (view-Object c.new.result))

pub returns : goal.returns
returns c =
    let some = some_held (style_in c.args.self.now) (form_in c.args.self.now) c.args.body.now (sym c.is_empty.ensures ∙ c.if-is_empty.false) in
    IfOk-weaker c.read_some.result _ _ (λ r h. some ∙ ap Some h) c.read_some.ensures
