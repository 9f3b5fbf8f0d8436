-- What is seen of a schema that requests are made by, and what is answered to inputs by it.
use Rattle.std.specs.Prelude.{ℕ, List, Result}
use Rattle.smithy_types.specs.Results.{then_give, then_try}
use Rattle.smithy_http.specs.Requests.{Request}
use Rattle.smithy_schema.specs.Nodes.{Schema}
use Rattle.smithy_schema.specs.References.{schema_of}
use Rattle.smithy_schema.specs.declared.schema_ref.SchemaRef.{SchemaRef}
use Rattle.smithy_serde.specs.StructValues.{members_of}
use Rattle.smithy_serde.specs.Values.{list_of}
use Rattle.smithy_serde.specs.declared.error.SerdeError.{SerdeError}
use Rattle.smithy_serde.specs.declared.header_omit_settings.OmitFlags.{OmitFlags}
use Rattle.smithy_serde.specs.declared.struct_value.StructValue.{StructValue}
use Rattle.smithy_binding.specs.Bindings.{headers}
use Rattle.smithy_binding.specs.Faults.{Fault}
use Rattle.smithy_binding.specs.Refusing.{Answers}
use Rattle.smithy_aws.specs.Added.{with_type}
use Rattle.smithy_aws.specs.Requests.{body_followed, placed, rest_json1_request}
use Rattle.smithy_aws.specs.declared.ready.ReadyInput.{ReadyInput}
use Rattle.smithy_aws.specs.declared.rest_json1_input.RestJson1Input.{RestJson1Input}
use Rattle.smithy_aws.specs.views.ReadyInputs.{present_writes, ready_writes}

abbrev pub input_of : RestJson1Input → Schema
input_of i = schema_of i.schema

-- the outcome is the request of an input, or its first fault
abbrev pub AnswersRestJson1 : RestJson1Input → StructValue → List ℕ → OmitFlags → Result Request SerdeError → Type 0
AnswersRestJson1 i input endpoint omit result = Answers result (rest_json1_request (input_of i) (members_of input) endpoint omit)

-- an input that is ready, as the core's protocol places it
abbrev pub input_placed : RestJson1Input → ReadyInput → List ℕ → OmitFlags → Result Request Fault
input_placed i ready endpoint omit = placed (input_of i) (list_of (ready_writes ready)) endpoint omit

-- where its values follow their nodes
abbrev pub input_followed : RestJson1Input → ReadyInput → List ℕ → OmitFlags → Result Request Fault
input_followed i ready endpoint omit = then_try (input_placed i ready endpoint omit) (body_followed (input_of i) (present_writes ready))

-- and with the content type of a raw payload
abbrev pub raw_input : RestJson1Input → SchemaRef → ReadyInput → List ℕ → OmitFlags → Result Request Fault
raw_input i payload ready endpoint omit =
    then_give (input_followed i ready endpoint omit) (with_type (schema_of payload) omit (headers (input_of i) (list_of (ready_writes ready))))
