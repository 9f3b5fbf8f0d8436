-- The requests that are sent with bodies of a codec's texts.
use Rattle.std.specs.Prelude.{ℕ, Bool, List, codes, decimal, Result}
use Rattle.smithy_types.specs.Documents.{Document}
use Rattle.smithy_http.specs.Requests.{Request}
use Rattle.smithy_schema.specs.References.{schema_of}
use Rattle.smithy_schema.specs.declared.schema_ref.SchemaRef.{SchemaRef}
use Rattle.smithy_serde.specs.Values.{Writes, list_of}
use Rattle.smithy_serde.specs.StructValues.{members_of}
use Rattle.smithy_serde.specs.declared.error.SerdeError.{SerdeError}
use Rattle.smithy_serde.specs.declared.header_omit_settings.OmitFlags.{OmitFlags}
use Rattle.smithy_serde.specs.declared.struct_value.StructValue.{StructValue}
use Rattle.smithy_binding.specs.Answer.{answer}
use Rattle.smithy_binding.specs.Placing.{Protocol, with_default}
use Rattle.smithy_binding.specs.Refusing.{Answers}
use Rattle.smithy_binding.specs.Rpc.{rpc_answer}
use Rattle.smithy_aws.specs.Requests.{content_type_of}
use Rattle.smithy_aws.specs.declared.aws_json.AwsJsonVersion.{AwsJsonVersion}

-- bodies of this content type and these texts
abbrev pub bodies : List ℕ → (Document → List ℕ) → Protocol
bodies content_type text = record { content_type = content_type; text_of = text }

-- the default length of a body of so many bytes
abbrev pub with_length : Bool → ℕ → List (List ℕ × List ℕ) → List (List ℕ × List ℕ)
with_length wanted n pairs = with_default wanted (codes "content-length") (decimal n) pairs

-- the request of writes, placed by a schema with bodies of these texts, or their first fault
abbrev pub IsPlaced : (Document → List ℕ) → SchemaRef → Writes → List ℕ → OmitFlags → Result Request SerdeError → Type 0
IsPlaced text schema ws endpoint omit result =
    Answers result (answer (bodies (codes "application/json") text) (schema_of schema) (list_of ws) endpoint omit)

-- that of an input which is posted whole, with a version's content type
abbrev pub IsPosted : (Document → List ℕ) → AwsJsonVersion → StructValue → List ℕ → OmitFlags → Result Request SerdeError → Type 0
IsPosted text version input endpoint omit result =
    Answers result (rpc_answer (bodies (content_type_of version) text) (members_of input) endpoint omit)
