use Rattle.smithy_bind.proofs.AwsLemmas.{coded_for, error_for, output_for, unknown_for}
use Rattle.smithy_bind.proofs.ReplyLemmas.{coded_stand}
use Rattle.smithy_bind.proofs.aws_target.by_expected.Goals as goal

pub returns-in-Output : goal.returns-in-Output
returns-in-Output c = rw c.in-Output.is (output_for c.args.table.now c.in-Output.place)

pub returns-in-Error : goal.returns-in-Error
returns-in-Error c = rw c.in-Error.is (error_for c.args.table.now c.in-Error.place)

pub error_of_code-requires-clause-operation : goal.error_of_code-requires-clause-operation
error_of_code-requires-clause-operation c =
    let stand = coded_stand c.args.table.now c.in-Coded.error (rw c.in-Coded.is at c.requires) in (stand.0.operation, stand.1.operation)

pub error_of_code-requires-clause-service : goal.error_of_code-requires-clause-service
error_of_code-requires-clause-service c =
    let stand = coded_stand c.args.table.now c.in-Coded.error (rw c.in-Coded.is at c.requires) in (stand.0.service, stand.1.service)

pub returns-in-Some : goal.returns-in-Some
returns-in-Some c = rw c.in-Coded.is (coded_for c.args.table.now c.in-Coded.error c.in-Some.place (rw c.in-Some.is at c.in_ok-place-in-Coded.ensures))

pub returns-in-None : goal.returns-in-None
returns-in-None c = rw c.in-Coded.is (unknown_for c.args.table.now c.in-Coded.error (rw c.in-None.is at c.in_ok-place-in-Coded.ensures))
