use Rattle.smithy_wire.proofs.Common.{sym, ap, ◌∙◌, subst}
use Rattle.json.specs.Value.{value_view}
use Rattle.smithy_json.specs.Reads.{Reads}
use Rattle.smithy_wire.specs.WireText.{json_of}
use Rattle.smithy_wire.proofs.JsonInLemmas.{in_utf8, not_utf8}
use Rattle.smithy_wire.proofs.json_values.json_in.Goals as goal

pub returns-in-Ok : goal.returns-in-Ok
returns-in-Ok c = subst (λ o. Reads value_view o c.only_value.result) (ap json_of c.in-Ok.ensures.cases.0 ∙ sym (in_utf8 c.args.bytes.now c.in-Ok.ensures.cases.1)) c.only_value.ensures

pub returns-in-Err : goal.returns-in-Err
returns-in-Err c = not_utf8 c.args.bytes.now c.in-Err.ensures.cases.0
