use Rattle.smithy_bind.proofs.AwsLaws.{is_plain}
use Rattle.smithy_bind.proofs.laws.aws_is_plain_without_protocol.Goals as goal

pub returns : goal.returns
returns c = is_plain
