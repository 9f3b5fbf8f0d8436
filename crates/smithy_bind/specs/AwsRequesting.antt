-- What is answered to an input that is sent by a protocol of AWS (Smithy, AWS restJson1 and AWS JSON protocols).
use Rattle.std.specs.Prelude.{if◌then◌else◌}
use Rattle.smithy_serde.specs.Values.{writes_of}
use Rattle.smithy_aws.specs.Added.{target_text}
use Rattle.smithy_aws.specs.Requests.{Call, aws_json_request, rest_json1_request, takes_requests}
use Rattle.smithy_aws.specs.declared.aws_json.AwsJsonVersion.{AwsJsonVersion}
use Rattle.smithy_aws.specs.declared.aws_json.AwsJsonVersion.TheVariants.{V1_0, V1_1}
use Rattle.smithy_job.specs.AwsKeys.{AwsCall, AwsJsonCall, rest_json1, aws_json10, aws_json11}
use Rattle.smithy_job.specs.Jobs.{Job}
use Rattle.smithy_bind.specs.Shown.{shown}
use Rattle.smithy_bind.specs.Told.{Outcome, no_job, told_by}

-- the request of AWS restJson1, or the first fault; a schema that no request is made by makes none
unfoldable pub rest_json1_sent : Job → Outcome
rest_json1_sent j =
    if takes_requests j.schema then told_by shown (rest_json1_request j.schema (writes_of j.writes) j.endpoint j.omit) else no_job

-- a call by a version of AWS JSON
abbrev pub call_by : AwsJsonVersion → AwsJsonCall → Call
call_by version c = record {
  version = version;
  target = target_text c.service.shape_name c.operation.shape_name;
  is_query_compatible = c.is_query_compatible;
}

-- the request of a call, or the first fault, whatever the schema
unfoldable pub aws_json_sent : Call → Job → Outcome
aws_json_sent c j = told_by shown (aws_json_request c j.schema (writes_of j.writes) j.endpoint j.omit)

-- the answer to a job whose input is sent so
abbrev pub aws_sent : AwsCall → Job → Outcome
aws_sent rest_json1 j = rest_json1_sent j
aws_sent (aws_json10 c) j = aws_json_sent (call_by V1_0 c) j
aws_sent (aws_json11 c) j = aws_json_sent (call_by V1_1 c) j
