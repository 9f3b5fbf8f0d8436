use Rattle.smithy_wire.proofs.Common.{ap, ◌∙◌}
use Rattle.std.proofs.lemmas.Result.{IfOk-weaker}
use Rattle.json.specs.Value.{value_view}
use Rattle.smithy_wire.specs.Unwire.{unwire}
use Rattle.smithy_wire.specs.WireText.{held_in}
use Rattle.smithy_wire.specs.views.WireOf.{form_in, style_in}
use Rattle.smithy_wire.proofs.wire_json.WireJson.read_some.Goals as goal

pub returns-in-Ok : goal.returns-in-Ok
returns-in-Ok c =
    let n = style_in c.args.self.now in
    let f = form_in c.args.self.now in
    IfOk-weaker c.told.result _ _ (λ r h. ap (held_in n f) c.in-Ok.ensures ∙ h (unwire n f (value_view c.in-Ok.value)) c.document_of.ensures) c.told.ensures
