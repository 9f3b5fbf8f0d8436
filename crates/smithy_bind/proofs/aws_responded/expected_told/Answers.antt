use Rattle.std.proofs.Common.{rules, Ok}
use Rattle.smithy_job.specs.ReceivedView.{message_seen}
use Rattle.smithy_bind.specs.AwsResponding.{aws_reply_by, aws_target}
use Rattle.smithy_bind.proofs.AwsLemmas.{reply_none, reply_so}
use Rattle.smithy_bind.proofs.aws_responded.expected_told.Goals as goal

pub aws_reply-requires : goal.aws_reply-requires
aws_reply-requires c = (aws_target c.requires.0, c.in_ok-target.ensures c.requires.0 c.requires.1)

pub returns-in_err-aws_reply : goal.returns-in_err-aws_reply
returns-in_err-aws_reply c = λ is at.
    reply_none (aws_reply_by c.args.reading (message_seen c.args.message.now) (aws_target is)) c.in_err-aws_reply.field-0.0 c.from_residual-in_err-aws_reply.result (search rules) (c.in_err-aws_reply.ensures (aws_target is) (c.in_ok-target.ensures is at))

pub returns : goal.returns
returns c = λ is at.
    reply_so (aws_reply_by c.args.reading (message_seen c.args.message.now) (aws_target is)) c.in_ok-aws_reply.field-0 c.told.result (c.in_ok-aws_reply.ensures (aws_target is) (c.in_ok-target.ensures is at)) c.told.ensures
