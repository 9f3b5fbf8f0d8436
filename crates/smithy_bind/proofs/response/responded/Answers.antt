use Rattle.std.proofs.Common.{rules, subst}
use Rattle.smithy_job.specs.Keys.{Keys}
use Rattle.smithy_job.specs.KeysView.{keys_seen}
use Rattle.smithy_bind.specs.Responding.{reply_among, responded_to, target_asked, told_reply}
use Rattle.smithy_bind.specs.Told.{outcome_of}
use Rattle.smithy_bind.specs.views.AnswerView.{Gives}
use Rattle.smithy_bind.proofs.ReplyLemmas.{message_none, reply_so, sound_target, target_none}
use Rattle.smithy_bind.proofs.response.responded.Goals as goal

pub returns-in_err-message : goal.returns-in_err-message
unfolding responded_to
returns-in_err-message c =
    subst (λ (k : Keys). Gives (outcome_of told_reply (reply_among k)) c.from_residual.result) c.of-keys.ensures
    (message_none (keys_seen c.of-keys.result) c.from_residual.result c.in_err-message.field-0.0 (search rules) c.in_err-message.ensures)

pub returns-in_err-target : goal.returns-in_err-target
unfolding responded_to
returns-in_err-target c =
    subst (λ (k : Keys). Gives (outcome_of told_reply (reply_among k)) c.from_residual-in_err-target.result) c.of-keys.ensures
    (target_none (keys_seen c.of-keys.result) c.from_residual-in_err-target.result c.in_ok-message.message c.in_err-target.field-0.0 c.in_ok-message.ensures (search rules) c.in_err-target.ensures)

pub reply-requires : goal.reply-requires
reply-requires c = sound_target (target_asked (keys_seen c.of-keys.result)) c.in_ok-target.target c.in_ok-target.ensures

pub returns : goal.returns
unfolding responded_to
returns c =
    subst (λ (k : Keys). Gives (outcome_of told_reply (reply_among k)) c.told.result) c.of-keys.ensures
    (reply_so (keys_seen c.of-keys.result) c.told.result c.in_ok-message.message c.in_ok-target.target c.in_ok-message.ensures c.in_ok-target.ensures (λ is by. c.told.ensures _ (c.reply.ensures is by)))
