-- The requests of AWS's JSON protocols (Smithy, AWS restJson1 and AWS JSON protocols).
use Rattle.std.specs.Prelude.{ℕ, Bool, true, false, ◌&&◌, codes, List, [], is_some, Option, option_map, Result, Ok}
use Rattle.std.specs.Bool.{then_some}
use Rattle.smithy_types.specs.Results.{then_give, then_try}
use Rattle.smithy_http.specs.Requests.{Request}
use Rattle.smithy_schema.specs.Nodes.{Schema}
use Rattle.smithy_serde.specs.Present.{present_members}
use Rattle.smithy_serde.specs.Values.{Write, Writes, list_of}
use Rattle.smithy_serde.specs.declared.error.SerdeError.{SerdeError}
use Rattle.smithy_serde.specs.declared.error.SerdeError.TheVariants.{UnknownMember, InvalidInput, UnsupportedOperation, Custom}
use Rattle.smithy_serde.specs.declared.header_omit_settings.OmitFlags.{OmitFlags}
use Rattle.smithy_binding.specs.Answer.{answer}
use Rattle.smithy_binding.specs.Bindings.{headers}
use Rattle.smithy_binding.specs.Checked.{checked_input}
use Rattle.smithy_binding.specs.Faults.{Fault, behind, unknown_member, invalid_input, unsupported, custom}
use Rattle.smithy_binding.specs.Placing.{Protocol}
use Rattle.smithy_binding.specs.Rpc.{rpc_answer}
use Rattle.smithy_wire.specs.Forms.{body_form, whole_form}
use Rattle.smithy_wire.specs.Misfits.{body_misfit_told, whole_misfit_told}
use Rattle.smithy_wire.specs.WireNames.{stands}
use Rattle.smithy_wire.specs.WireText.{wire_text}
use Rattle.smithy_wire.specs.declared.side.Side.TheVariants as side
use Rattle.smithy_aws.specs.Added.{added, with_call}
use Rattle.smithy_aws.specs.Ready.{ready}
use Rattle.smithy_aws.specs.declared.aws_json.AwsJsonVersion.{AwsJsonVersion}
use Rattle.smithy_aws.specs.declared.aws_json.AwsJsonVersion.TheVariants.{V1_0, V1_1}

-- ---- values that follow their nodes

-- the fault that such a refusal tells
abbrev pub fault_in : SerdeError → Fault
fault_in (UnknownMember text) = unknown_member text
fault_in (InvalidInput text) = invalid_input text
fault_in (UnsupportedOperation text) = unsupported text
fault_in (Custom text) = custom text
fault_in _ = custom []

-- the request, where each value of its body follows its node; else the first that doesn't is refused
abbrev pub following : Option SerdeError → Request → Result Request Fault
following refusal r = behind (option_map fault_in refusal) (Ok r)

-- ---- restJson1

-- requests can be made by it: its bindings are sound, it says of HTTP where they go, and names stand
abbrev pub takes_requests : Schema → Bool
takes_requests n = checked_input n && is_some n.node.traits.http && stands side.Request n

abbrev pub taken_input : Schema → Option Schema
taken_input n = then_some (takes_requests n) n

-- bodies of JSON by the names in JSON of a schema
abbrev pub rest_json1 : Schema → Protocol
rest_json1 schema = record { content_type = codes "application/json"; text_of = wire_text true (body_form side.Request schema) }

-- the request of writes that are ready
abbrev pub placed : Schema → List Write → List ℕ → OmitFlags → Result Request Fault
placed schema ws endpoint omit = answer (rest_json1 schema) schema ws endpoint omit

-- where each value of these writes that stands in the body does
abbrev pub body_followed : Schema → Writes → Request → Result Request Fault
body_followed schema ws r = following (body_misfit_told schema ws) r

-- The request of an input, placed by the binding traits, or its first fault: of the placing, and then of a value in the body that
-- doesn't follow its node. Null members are not there, and a structure is there where it is the payload and isn't written.
unfoldable pub rest_json1_request : Schema → Writes → List ℕ → OmitFlags → Result Request Fault
rest_json1_request schema ws endpoint omit =
    let there = list_of (ready schema ws) in
    then_give (then_try (placed schema there endpoint omit) (body_followed schema (present_members ws))) (added schema omit (headers schema there))

-- ---- AWS JSON 1.0 and 1.1

-- a call: its version, the operation that it is of, and whether errors are told as of the query protocol
pub record Call : Type 0 where
  pub version : AwsJsonVersion
  pub target : List ℕ
  pub is_query_compatible : Bool

abbrev pub protocol_name : AwsJsonVersion → List ℕ
protocol_name V1_0 = codes "aws.protocols#awsJson1_0"
protocol_name V1_1 = codes "aws.protocols#awsJson1_1"

abbrev pub content_type_of : AwsJsonVersion → List ℕ
content_type_of V1_0 = codes "application/x-amz-json-1.0"
content_type_of V1_1 = codes "application/x-amz-json-1.1"

-- bodies of JSON by a schema, with the names of the members
abbrev pub aws_json : AwsJsonVersion → Schema → Protocol
aws_json version schema = record { content_type = content_type_of version; text_of = wire_text false (whole_form schema) }

-- where each value of these writes does
abbrev pub whole_followed : Schema → Writes → Request → Result Request Fault
whole_followed schema ws r = following (whole_misfit_told schema ws) r

-- the request of writes that are posted whole
abbrev pub posted : AwsJsonVersion → Schema → Writes → List ℕ → OmitFlags → Result Request Fault
posted version schema ws endpoint omit = rpc_answer (aws_json version schema) ws endpoint omit

-- the request with the headers of a call
abbrev pub called : Call → Request → Result Request Fault
called c r = then_give (with_call c.target c.is_query_compatible r.headers) λ pairs. record r { headers = pairs }

-- The request of an input, posted whole whatever its schema says of HTTP, or its first fault: of the posting, then of a value that
-- doesn't follow its node, and then of the target. Null members are not there.
unfoldable pub aws_json_request : Call → Schema → Writes → List ℕ → OmitFlags → Result Request Fault
aws_json_request c schema ws endpoint omit =
    let there = present_members ws in
    then_try (then_try (posted c.version schema there endpoint omit) (whole_followed schema there)) (called c)
