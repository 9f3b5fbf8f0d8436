use Rattle.std.proofs.Common.{rules}
use Rattle.smithy_json.specs.JsonView.{view}
use Rattle.smithy_job.specs.Jobs.{received}
use Rattle.smithy_job.specs.declared.job_kind.JobKind.TheVariants as kind
use Rattle.smithy_bind.specs.Explaining.{rule_in}
use Rattle.smithy_bind.proofs.ExplainLemmas.{received_stands, response_told, response_untold, rule_unfound}
use Rattle.smithy_bind.proofs.explaining.response_told.Goals as goal

pub expected_rule-requires : goal.expected_rule-requires
expected_rule-requires c = received_stands (received (view c.args.value.now)) c.in_ok-received.received c.in_ok-received.ensures

pub returns-in_err-expected_rule : goal.returns-in_err-expected_rule
returns-in_err-expected_rule c =
    response_untold (rule_in kind.Response (view c.args.value.now)) c.in_err-expected_rule.field-0.0 c.from_residual-in_err-expected_rule.result (search rules)
    (rule_unfound (received (view c.args.value.now)) c.in_ok-received.received c.in_err-expected_rule.field-0.0 c.in_ok-received.ensures c.in_err-expected_rule.ensures)

pub returns : goal.returns
returns c = response_told (received (view c.args.value.now)) c.in_ok-received.received _ c.broken_told.result c.in_ok-received.ensures c.in_ok-expected_rule.ensures c.broken_told.ensures
