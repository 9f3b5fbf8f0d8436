use Rattle.smithy_bind.proofs.ReplyLemmas.{coded_by, coded_stand, error_by, error_stands, output_by, output_stands}
use Rattle.smithy_bind.proofs.target.by_expected.Goals as goal

pub by_schema-requires : goal.by_schema-requires
by_schema-requires c = output_stands c.args.table.now c.in-Output.place (rw c.in-Output.is at c.requires)

pub by_schema-requires-in-Error : goal.by_schema-requires-in-Error
by_schema-requires-in-Error c = error_stands c.args.table.now c.in-Error.place (rw c.in-Error.is at c.requires)

pub by_code-requires-clause-operation : goal.by_code-requires-clause-operation
by_code-requires-clause-operation c =
    let stand = coded_stand c.args.table.now c.in-Coded.error (rw c.in-Coded.is at c.requires) in (stand.0.operation, stand.1.operation)

pub by_code-requires-clause-service : goal.by_code-requires-clause-service
by_code-requires-clause-service c =
    let stand = coded_stand c.args.table.now c.in-Coded.error (rw c.in-Coded.is at c.requires) in (stand.0.service, stand.1.service)

pub returns-in-Output : goal.returns-in-Output
returns-in-Output c = rw c.in-Output.is (output_by c.args.table.now c.in-Output.place c.by_schema.result c.by_schema.ensures)

pub returns-in-Error : goal.returns-in-Error
returns-in-Error c = rw c.in-Error.is (error_by c.args.table.now c.in-Error.place c.by_schema-in-Error.result c.by_schema-in-Error.ensures)

pub returns-in-Coded : goal.returns-in-Coded
returns-in-Coded c = rw c.in-Coded.is (coded_by c.args.table.now c.in-Coded.error c.by_code.result c.by_code.ensures)
