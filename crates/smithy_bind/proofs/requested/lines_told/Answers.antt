use Rattle.std.proofs.Common.{map, rules, sym}
use Rattle.smithy_json.specs.JsonView.{view}
use Rattle.smithy_bind.proofs.RequestedLemmas.{requested_so, requested_refused, requested_without}
use Rattle.smithy_bind.proofs.requested.lines_told.Goals as goal

pub returns-in_default : goal.returns-in_default
returns-in_default g c = requested_without (view c.args.value.now) (g.C.Codec.text c.args.codec) (sym c.in_default.ensures)

pub returns-in_err-operation : goal.returns-in_err-operation
returns-in_err-operation g c =
    requested_refused (view c.args.value.now) (map view c.in-Some.inputs.now) (sym c.in-Some.ensures) (g.C.Codec.text c.args.codec) c.in_err-operation.field-0.0 c.from_residual.result (search rules) c.in_err-operation.ensures.value

pub returns : goal.returns
returns g c =
    requested_so (view c.args.value.now) (map view c.in-Some.inputs.now) (sym c.in-Some.ensures) (g.C.Codec.text c.args.codec) c.in_ok-operation.operation c.in_ok-lines.field-0 c.in_ok-operation.ensures.value c.in_ok-lines.ensures
