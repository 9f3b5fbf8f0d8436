-- The calls of Amazon DynamoDB's `GetItem` (Smithy, AWS JSON 1.0 protocol).
use Rattle.std.specs.Prelude.{ℕ, codes, false, List, Result}
use Rattle.smithy_http.specs.Requests.{Request}
use Rattle.smithy_schema.specs.Nodes.{Schema}
use Rattle.smithy_schema.specs.References.{schema_of}
use Rattle.smithy_schema.specs.declared.schema_ref.SchemaRef.{SchemaRef}
use Rattle.smithy_serde.specs.StructValues.{members_of}
use Rattle.smithy_serde.specs.Values.{Writes, writes_of}
use Rattle.smithy_serde.specs.declared.error.SerdeError.{SerdeError}
use Rattle.smithy_serde.specs.declared.struct_value.StructValue.{StructValue}
use Rattle.smithy_binding.specs.Faults.{Fault}
use Rattle.smithy_binding.specs.Placing.{OmitFlags}
use Rattle.smithy_binding.specs.Refusing.{Answers}
use Rattle.smithy_job.specs.Jobs.{Job}
use Rattle.smithy_aws.specs.Added.{target_text}
use Rattle.smithy_aws.specs.Requests.{Call, aws_json_request}
use Rattle.smithy_aws.specs.declared.aws_json.AwsJsonVersion.TheVariants.{V1_0}

-- the version, and the names of the service and of the operation, as `DynamoDB_20120810.GetItem`
abbrev pub get_item : Call
get_item = record { version = V1_0; target = target_text (codes "DynamoDB_20120810") (codes "GetItem"); is_query_compatible = false }

-- the request of an input, or its first fault
abbrev pub get_item_request : Schema → Writes → List ℕ → OmitFlags → Result Request Fault
get_item_request schema ws endpoint omit = aws_json_request get_item schema ws endpoint omit

-- the outcome is that of a structure by a schema
abbrev pub AnswersInput : SchemaRef → StructValue → List ℕ → OmitFlags → Result Request SerdeError → Type 0
AnswersInput schema input endpoint omit result = Answers result (get_item_request (schema_of schema) (members_of input) endpoint omit)

-- the outcome is that of the input of a job
abbrev pub AnswersGetItem : Result Request SerdeError → Job → Type 0
AnswersGetItem outcome j = Answers outcome (get_item_request j.schema (writes_of j.writes) j.endpoint j.omit)
