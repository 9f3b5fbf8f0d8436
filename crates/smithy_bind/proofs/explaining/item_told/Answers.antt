use Rattle.std.proofs.Common.{rules}
use Rattle.smithy_job.specs.Jobs.{received_by}
use Rattle.smithy_job.specs.KeysView.{keys_seen}
use Rattle.smithy_bind.specs.Explaining.{rule_among}
use Rattle.smithy_bind.proofs.ExplainLemmas.{item_broken, item_fits, item_untold, received_stands, rule_unfound}
use Rattle.smithy_bind.proofs.explaining.item_told.Goals as goal

pub expected_rule-requires : goal.expected_rule-requires
expected_rule-requires c = received_stands (received_by (keys_seen c.args.keys.now)) c.in_ok-received.received c.in_ok-received.ensures

pub returns-in_err-broken : goal.returns-in_err-broken
returns-in_err-broken c =
    item_untold (rule_among c.args.position (keys_seen c.args.keys.now)) c.in_err-broken.field-0.0 c.from_residual-in_err-broken.result (search rules)
    (rule_unfound (received_by (keys_seen c.args.keys.now)) c.in_ok-received.received c.in_err-broken.field-0.0 c.in_ok-received.ensures c.in_err-broken.ensures)

pub returns-in-Some : goal.returns-in-Some
returns-in-Some c =
    item_broken c.args.position (received_by (keys_seen c.args.keys.now)) c.in_ok-received.received c.in-Some.broken _ c.in_ok-received.ensures (rw c.in-Some.is at c.in_ok-broken.ensures) c.in_ok-response_not_checked-in-Some.ensures

pub returns : goal.returns
returns c = item_fits c.args.position (received_by (keys_seen c.args.keys.now)) c.in_ok-received.received c.in_ok-received.ensures (rw c.in-None.is at c.in_ok-broken.ensures)
