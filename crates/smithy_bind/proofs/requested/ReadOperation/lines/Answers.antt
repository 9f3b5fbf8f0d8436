use Rattle.std.proofs.Common.{IfOk, ap, map, subst}
use Rattle.smithy_json.specs.JsonView.{view}
use Rattle.smithy_bind.specs.views.RequestedView.{TellsInputs}
use Rattle.smithy_bind.proofs.requested.ReadOperation.lines.Goals as goal

pub returns : goal.returns
returns g c =
    subst (λ text. IfOk c.lines_by.result (TellsInputs text c.args.self.now (map view c.args.inputs.now))) (ap g.C.Codec.text c.rest_json-protocol.ensures.codec) c.lines_by.ensures
