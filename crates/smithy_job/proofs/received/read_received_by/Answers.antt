use Rattle.std.proofs.Common.{refl, rules}
use Rattle.smithy_job.specs.views.KeysView.{keys_seen}
use Rattle.smithy_job.specs.views.ReceivedView.{message_seen}
use Rattle.smithy_job.proofs.ReceivedLemmas.{received-so, received-refused}
use Rattle.smithy_job.proofs.received.read_received_by.Goals as goal

pub returns-in_err-table : goal.returns-in_err-table
returns-in_err-table c =
    received-refused (keys_seen c.args.keys.now) (message_seen c.in_ok-response.field-0) c.in_ok-response.ensures c.in_err-table.field-0.0 c.from_residual-in_err-table.result (search rules) c.in_err-table.ensures

pub returns : goal.returns
returns c = received-so (keys_seen c.args.keys.now) (message_seen c.in_ok-response.field-0) c.in_ok-response.ensures _ refl refl c.in_ok-table.ensures
