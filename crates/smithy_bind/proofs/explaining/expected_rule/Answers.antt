use Rattle.smithy_bind.proofs.ExplainLemmas.{coded_rule_found, error_rule_found, output_rule_found}
use Rattle.smithy_bind.proofs.ReplyLemmas.{coded_stand, error_stands, output_stands}
use Rattle.smithy_bind.proofs.explaining.expected_rule.Goals as goal

pub output_rule-requires : goal.output_rule-requires
output_rule-requires c = output_stands c.args.table.now c.in-Output.place (rw c.in-Output.is at c.requires)

pub output_rule-requires-in-Error : goal.output_rule-requires-in-Error
output_rule-requires-in-Error c = error_stands c.args.table.now c.in-Error.place (rw c.in-Error.is at c.requires)

pub error_rule-requires-clause-operation : goal.error_rule-requires-clause-operation
error_rule-requires-clause-operation c = let stand = coded_stand c.args.table.now c.in-Coded.error (rw c.in-Coded.is at c.requires) in (stand.0.operation, stand.1.operation)

pub error_rule-requires-clause-service : goal.error_rule-requires-clause-service
error_rule-requires-clause-service c = let stand = coded_stand c.args.table.now c.in-Coded.error (rw c.in-Coded.is at c.requires) in (stand.0.service, stand.1.service)

pub returns-in-Output : goal.returns-in-Output
returns-in-Output c = rw c.in-Output.is (output_rule_found c.args.table.now c.output_rule.result c.in-Output.place c.output_rule.ensures)

pub returns-in-Error : goal.returns-in-Error
returns-in-Error c = rw c.in-Error.is (error_rule_found c.args.table.now c.output_rule-in-Error.result c.in-Error.place c.output_rule-in-Error.ensures)

pub returns-in-Coded : goal.returns-in-Coded
returns-in-Coded c = rw c.in-Coded.is (coded_rule_found c.args.table.now c.error_rule.result c.in-Coded.error c.error_rule.ensures)
