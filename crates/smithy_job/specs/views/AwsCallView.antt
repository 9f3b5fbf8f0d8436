-- How the code has it that a job's input is sent by a protocol of AWS.
use Rattle.smithy_ids.specs.ShapeIdParts.{parts_of}
use Rattle.smithy_job.specs.AwsKeys as jobs
use Rattle.smithy_job.specs.declared.aws_call.AwsCall.{AwsCall}
use Rattle.smithy_job.specs.declared.aws_call.AwsCall.TheVariants.{RestJson1, AwsJson10, AwsJson11}
use Rattle.smithy_job.specs.declared.aws_call.AwsJsonCall.{AwsJsonCall}

abbrev pub json_call_seen : AwsJsonCall → jobs.AwsJsonCall
json_call_seen c = record { service = parts_of c.service; operation = parts_of c.operation; is_query_compatible = c.is_query_compatible }

abbrev pub call_seen : AwsCall → jobs.AwsCall
call_seen RestJson1 = jobs.rest_json1
call_seen (AwsJson10 c) = jobs.aws_json10 (json_call_seen c)
call_seen (AwsJson11 c) = jobs.aws_json11 (json_call_seen c)
