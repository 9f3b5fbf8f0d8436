use Rattle.smithy_bind.proofs.aws_requested.input_told.Goals as goal

pub returns-in-RestJson1 : goal.returns-in-RestJson1
returns-in-RestJson1 c = rw c.in-RestJson1.is c.rest_json1_told.ensures

pub returns-in-AwsJson10 : goal.returns-in-AwsJson10
returns-in-AwsJson10 c = rw c.in-AwsJson10.is c.aws_json_told.ensures

pub returns-in-AwsJson11 : goal.returns-in-AwsJson11
returns-in-AwsJson11 c = rw c.in-AwsJson11.is c.aws_json_told-in-AwsJson11.ensures
