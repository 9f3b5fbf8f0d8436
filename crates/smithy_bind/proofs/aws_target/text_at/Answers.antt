use Rattle.smithy_bind.proofs.aws_target.text_at.Goals as goal

pub returns-in-RestJson1 : goal.returns-in-RestJson1
returns-in-RestJson1 c = λ s at. rw c.in-RestJson1.is (c.rest_json1_text.ensures s at)

pub returns-in-AwsJson10 : goal.returns-in-AwsJson10
returns-in-AwsJson10 c = λ s at. rw c.in-AwsJson10.is (c.aws_json_text.ensures s at)

pub returns-in-AwsJson11 : goal.returns-in-AwsJson11
returns-in-AwsJson11 c = λ s at. rw c.in-AwsJson11.is (c.aws_json_text-in-AwsJson11.ensures s at)
