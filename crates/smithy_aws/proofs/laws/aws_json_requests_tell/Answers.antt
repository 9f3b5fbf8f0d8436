use Rattle.smithy_aws.proofs.CallTelling.{aws_json_tells}
use Rattle.smithy_aws.proofs.laws.aws_json_requests_tell.Goals as goal

pub returns : goal.returns
returns c = aws_json_tells
