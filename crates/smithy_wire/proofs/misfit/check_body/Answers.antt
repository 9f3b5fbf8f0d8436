use Rattle.smithy_serde.specs.StoredValues.{writes_in}
use Rattle.smithy_wire.specs.Misfits.{body_misfit}
use Rattle.smithy_wire.specs.Words.{schema_of}
use Rattle.smithy_wire.proofs.MisfitWalks.{body_told}
use Rattle.smithy_wire.proofs.misfit.check_body.Goals as goal

pub returns : goal.returns
returns c =
    let s = schema_of c.args.node in
    let ws = writes_in c.args.table.now c.args.input.now in
    body_told s ws c.answer.result (c.answer.ensures (body_misfit s ws) c.test_body.ensures)
