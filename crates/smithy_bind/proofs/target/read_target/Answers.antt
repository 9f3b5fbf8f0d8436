use Rattle.std.proofs.Common.{rules}
use Rattle.smithy_job.specs.Jobs.{expected}
use Rattle.smithy_job.specs.KeysView.{keys_seen}
use Rattle.smithy_bind.proofs.ReplyLemmas.{expectable, target_refused, target_so, target_unread}
use Rattle.smithy_bind.proofs.target.read_target.Goals as goal

pub returns-in_err-table : goal.returns-in_err-table
returns-in_err-table c = target_unread (keys_seen c.args.keys.now) c.in_err-table.field-0.0 c.from_residual.result (search rules) c.in_err-table.ensures

pub by_expected-requires : goal.by_expected-requires
by_expected-requires c = expectable (expected (keys_seen c.args.keys.now)) c.in_ok-table.field-0 c.in_ok-table.ensures

pub returns-in_err-by : goal.returns-in_err-by
returns-in_err-by c = target_refused (expected (keys_seen c.args.keys.now)) c.in_ok-table.field-0 c.in_err-by.field-0.0 c.from_residual-in_err-by.result c.in_ok-table.ensures (search rules) c.in_err-by.ensures

pub returns : goal.returns
returns c = target_so (expected (keys_seen c.args.keys.now)) c.in_ok-table.field-0 c.in_ok-by.by c.in_ok-table.ensures c.in_ok-by.ensures
