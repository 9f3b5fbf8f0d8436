-- The headers that a request of AWS's JSON protocols has beside those that the binding traits give.
use Rattle.std.specs.Prelude.{ℕ, Bool, not, ◌==◌, codes, List, [], ◌∷◌, ◌++◌, length, Option, option_and_then, unwrap_or, Result, Ok, Err, if◌then◌else◌}
use Rattle.std.specs.Bool.{then_some}
use Rattle.std.specs.Option.{option_map_or}
use Rattle.smithy_ids.specs.Kinds.{same_kind}
use Rattle.smithy_ids.specs.declared.shape_type.ShapeType.{ShapeType}
use Rattle.smithy_ids.specs.declared.shape_type.ShapeType.TheVariants as kind
use Rattle.smithy_types.specs.Grammars.{is_header_value}
use Rattle.smithy_types.specs.Results.{then_give}
use Rattle.smithy_http.specs.Requests.{Request}
use Rattle.smithy_schema.specs.Nodes.{Schema}
use Rattle.smithy_serde.specs.declared.header_omit_settings.OmitFlags.{OmitFlags}
use Rattle.smithy_binding.specs.Bodies.{is_raw_kind}
use Rattle.smithy_binding.specs.Faults.{Fault, invalid_input}
use Rattle.smithy_binding.specs.Placing.{with_defaults}
use Rattle.smithy_aws.specs.Payloads.{payload_of}

-- ---- restJson1: the content type of a raw payload

-- the payload whose bytes are the body (Smithy, HTTP protocol bindings, httpPayload)
abbrev pub if_raw : Schema → Option Schema
if_raw m = then_some (is_raw_kind m.node.kind) m

abbrev pub raw_payload : Schema → Option Schema
raw_payload schema = option_and_then if_raw (payload_of schema)

-- the text, where a header can have it (RFC 7230, section 3.2)
abbrev pub if_legal : List ℕ → Option (List ℕ)
if_legal text = then_some (is_header_value text) text

-- what the bytes are where no media type says it: a blob's (RFC 2046, section 4.5.1), or a text's (section 4.1.3)
abbrev pub type_of_kind : ShapeType → List ℕ
type_of_kind k = if same_kind k kind.Blob then codes "application/octet-stream" else codes "text/plain"

-- the payload's media type, where it has one that a header can have (Smithy, mediaType trait)
abbrev pub media_type : Schema → Option (List ℕ)
media_type m = option_and_then if_legal m.node.traits.media_type

-- that, else the one of its kind
abbrev pub raw_type : Schema → List ℕ
raw_type m = unwrap_or (media_type m) (type_of_kind m.node.kind)

-- a request whose members have these headers: behind them, where there are bytes, the content type and the length, each unless it
-- is left out or such a name stands
abbrev pub with_type : Schema → OmitFlags → List (List ℕ × List ℕ) → Request → Request
with_type payload omit pairs r =
    record r { headers = with_defaults (raw_type payload) (not (length r.body == 0)) (length r.body) omit pairs }

-- the request by a schema, with its content type where its body is a raw payload
abbrev pub added : Schema → OmitFlags → List (List ℕ × List ℕ) → Request → Request
added schema omit pairs r = option_map_or (λ m. with_type m omit pairs r) (raw_payload schema) r

-- ---- AWS JSON 1.0 and 1.1: the operation that is called

-- the operation of a service, by the names of both shapes (Smithy, AWS JSON protocols, the header X-Amz-Target)
abbrev pub target_text : List ℕ → List ℕ → List ℕ
target_text service operation = service ++ (codes "." ++ operation)

-- no header can have the target
abbrev pub no_target : Fault
no_target = invalid_input (codes "cannot serialize target to header `x-amz-target`: invalid header value")

-- behind the headers the target
abbrev pub with_target : List ℕ → List (List ℕ × List ℕ) → Result (List (List ℕ × List ℕ)) Fault
with_target target pairs = if is_header_value target then Ok (pairs ++ (codes "x-amz-target", target) ∷ []) else Err no_target

-- and where errors are told as of the query protocol, that this is so (Smithy, awsQueryCompatible trait)
abbrev pub with_mode : Bool → List (List ℕ × List ℕ) → List (List ℕ × List ℕ)
with_mode is_query_compatible pairs = if is_query_compatible then pairs ++ (codes "x-amzn-query-mode", codes "true") ∷ [] else pairs

abbrev pub with_call : List ℕ → Bool → List (List ℕ × List ℕ) → Result (List (List ℕ × List ℕ)) Fault
with_call target is_query_compatible pairs = then_give (with_target target pairs) (with_mode is_query_compatible)
