use Rattle.smithy_wire.proofs.Common.{ap}
use Rattle.smithy_serde.specs.StoredValues.{writes_in}
use Rattle.smithy_wire.specs.Misfits.{field_misfit, whole_misfit}
use Rattle.smithy_wire.specs.Words.{schema_of}
use Rattle.smithy_wire.proofs.MisfitWalks.{as_same, whole_told}
use Rattle.smithy_wire.proofs.misfit.check_whole.Goals as goal

pub returns : goal.returns
returns c =
    let s = schema_of c.args.node in
    let ws = writes_in c.args.table.now c.args.input.now in
    let all = as_same c.test_fields.result _ _ (ap (λ f. field_misfit f ws) c.of.ensures) c.test_fields.ensures in
    whole_told s ws c.answer.result (c.answer.ensures (whole_misfit s ws) all)
