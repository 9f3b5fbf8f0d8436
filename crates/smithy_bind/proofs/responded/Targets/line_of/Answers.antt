use Rattle.smithy_job.specs.KeysView.{keys_seen}
use Rattle.smithy_bind.proofs.ReplyLemmas.{line_among, made_among, made_unread}
use Rattle.smithy_bind.proofs.responded.Targets.line_of.Goals as goal

pub returns-in-Err-NoJob-clause-line : goal.returns-in-Err-NoJob-clause-line
returns-in-Err-NoJob-clause-line c = made_unread (keys_seen c.args.keys) c.none_line.result (rw c.in-Err-NoJob.field-0-is at c.in-Err-NoJob.ensures) c.none_line.ensures

pub returns-in-Some-clause-line : goal.returns-in-Some-clause-line
returns-in-Some-clause-line c = made_among (keys_seen c.args.keys) c.in-Ok.message c.in-Some.target.now c.line_by.result c.in-Ok.ensures c.in-Some.ensures c.line_by.ensures

pub returns-clause-line : goal.returns-clause-line
returns-clause-line c = line_among (keys_seen c.args.keys) c.in-Ok.message c.in_ok-target.target c.in_ok-line.line c.in-Ok.ensures c.in_ok-target.ensures c.in_ok-line.ensures
