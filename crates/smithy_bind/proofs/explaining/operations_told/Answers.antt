use Rattle.std.proofs.Common.{rules}
use Rattle.smithy_job.specs.RoutingView.{all_named, operation_by}
use Rattle.smithy_bind.specs.views.ExplainingView.{told_seen}
use Rattle.smithy_bind.proofs.ExplainLemmas.{operation_told, operations_end, operations_refused}
use Rattle.smithy_bind.proofs.explaining.operations_told.Goals as goal

pub returns-in_err-operation : goal.returns-in_err-operation
returns-in_err-operation c =
    operations_refused (operation_by c.args.operations.now) c.args.operations.now.names.now c.loop-name.name-index c.name-item.result (told_seen c.loop-name.told) (all_named c.args.operations.now)
    c.in_err-operation.field-0.0 c.from_residual.result (search rules) c.loop-name-test.true c.name-item.is c.in_err-operation.ensures c.loop-name.invariant

pub loop-name-preserved : goal.loop-name-preserved
loop-name-preserved c =
    operation_told (operation_by c.args.operations.now) c.args.operations.now.names.now c.loop-name.name-index c.name-item.result (told_seen c.loop-name.told) _ _ _ c.loop-name-test.true c.name-item.is
    c.in_ok-operation.ensures c.in_ok-told.ensures c.loop-name.invariant

pub returns : goal.returns
returns c =
    operations_end (operation_by c.args.operations.now) c.args.operations.now.names.now c.loop-name.name-index (all_named c.args.operations.now) (told_seen c.loop-name.told) c.job_unless.result c.loop-name-test.false
    c.loop-name.invariant c.job_unless.ensures
