-- What a call of the code is, and what is answered to an input of one.
use Rattle.std.specs.Prelude.{◌≡◌, ℕ, List, Result, Ok, Err}
use Rattle.smithy_types.specs.Results.{then_try}
use Rattle.smithy_http.specs.Requests.{Request}
use Rattle.smithy_ids.specs.ShapeIdParts.{parts_of}
use Rattle.smithy_ids.specs.declared.shape_id.ShapeId.{ShapeId}
use Rattle.smithy_schema.specs.References.{schema_of}
use Rattle.smithy_schema.specs.declared.schema_ref.SchemaRef.{SchemaRef}
use Rattle.smithy_serde.specs.StructValues.{members_of}
use Rattle.smithy_serde.specs.declared.error.SerdeError.{SerdeError}
use Rattle.smithy_serde.specs.declared.header_omit_settings.OmitFlags.{OmitFlags}
use Rattle.smithy_serde.specs.declared.struct_value.StructValue.{StructValue}
use Rattle.smithy_binding.specs.Faults.{Fault}
use Rattle.smithy_binding.specs.Refusing.{Answers, TellsFault}
use Rattle.smithy_aws.specs.Added.{target_text}
use Rattle.smithy_aws.specs.Requests.{Call, aws_json_request, posted, whole_followed}
use Rattle.smithy_aws.specs.declared.aws_json.AwsJson.{AwsJson}

-- the call of an operation
abbrev pub call_of : AwsJson → ShapeId → Call
call_of c operation = record {
  version = c.version;
  target = target_text (parts_of c.service).shape_name (parts_of operation).shape_name;
  is_query_compatible = c.is_query_compatible;
}

-- the outcome is the request of an input of the operation, or its first fault
abbrev pub AnswersAwsJson : AwsJson → ShapeId → SchemaRef → StructValue → List ℕ → OmitFlags → Result Request SerdeError → Type 0
AnswersAwsJson c operation schema input endpoint omit result =
    Answers result (aws_json_request (call_of c operation) (schema_of schema) (members_of input) endpoint omit)

-- an input as the core's protocol posts it, and where its values follow their nodes
abbrev pub input_posted : AwsJson → SchemaRef → StructValue → List ℕ → OmitFlags → Result Request Fault
input_posted c schema input endpoint omit = posted c.version (schema_of schema) (members_of input) endpoint omit

abbrev pub input_followed : AwsJson → SchemaRef → StructValue → List ℕ → OmitFlags → Result Request Fault
input_followed c schema input endpoint omit =
    then_try (input_posted c schema input endpoint omit) (whole_followed (schema_of schema) (members_of input))

-- what a value is after a call that may be refused: this, or the fault is told
abbrev pub Becomes : {A U : Type 0} → A → Result U SerdeError → Result A Fault → Type 0
Becomes new (Ok u) answer = answer ≡ Ok new
Becomes new (Err e) answer = TellsFault e (λ f. answer ≡ Err f)
