use Rattle.std.proofs.Common.{rules, subst}
use Rattle.smithy_job.specs.Keys.{Keys}
use Rattle.smithy_job.specs.KeysView.{keys_seen}
use Rattle.smithy_bind.specs.AwsResponding.{aws_replied, aws_reply}
use Rattle.smithy_bind.specs.Responding.{told_reply}
use Rattle.smithy_bind.specs.Told.{outcome_of}
use Rattle.smithy_bind.specs.views.AnswerView.{Gives}
use Rattle.smithy_bind.proofs.AwsLemmas.{message_none, message_so}
use Rattle.smithy_bind.proofs.aws_responded.response_told.Goals as goal

pub returns-in_err-message : goal.returns-in_err-message
unfolding aws_replied
returns-in_err-message c =
    subst (λ (k : Keys). Gives (outcome_of told_reply (aws_reply c.args.reading k)) c.from_residual.result) c.of-keys.ensures
    (message_none c.args.reading (keys_seen c.of-keys.result) c.from_residual.result c.in_err-message.field-0.0 (search rules) c.in_err-message.ensures)

pub returns-then-is_asked : goal.returns-then-is_asked
unfolding aws_replied
returns-then-is_asked c =
    subst (λ (k : Keys). Gives (outcome_of told_reply (aws_reply c.args.reading k)) c.asked_told.result) c.of-keys.ensures
    (message_so c.args.reading (keys_seen c.of-keys.result) c.asked_told.result c.in_ok-message.message c.in_ok-message.ensures c.asked_told.ensures)

pub returns : goal.returns
unfolding aws_replied
returns c =
    subst (λ (k : Keys). Gives (outcome_of told_reply (aws_reply c.args.reading k)) c.error_told.result) c.of-keys.ensures
    (message_so c.args.reading (keys_seen c.of-keys.result) c.error_told.result c.in_ok-message.message c.in_ok-message.ensures c.error_told.ensures)
