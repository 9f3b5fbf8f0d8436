-- The input of a request.
use Rattle.std.specs.Prelude.{◌≡◌, ◌↔◌, ℕ, Bool, false, ◌&&◌, List, Option, Some, None, option_map, option_and_then, is_none, IsTrue}
use Rattle.std.specs.List.{list_all, enumerate_from}
use Rattle.std.specs.Option.{option_map_or}
use Rattle.smithy_types.specs.Documents.{Document}
use Rattle.smithy_types.specs.Grammars.{before_query}
use Rattle.smithy_http.specs.Facts.{facts, query_pieces}
use Rattle.smithy_http.specs.Requests.{Request}
use Rattle.smithy_schema.specs.Nodes.{Schema, members_of, Binding, to_header, to_prefix, to_query, to_query_map, to_label, to_payload, to_body, binding_of}
use Rattle.smithy_schema.specs.Templates.{Template, pieces}
use Rattle.smithy_schema.specs.WellMade.{is_well_made}
use Rattle.smithy_serde.specs.Held.{Held}
use Rattle.smithy_serde.specs.Values.{Value, Write}
use Rattle.std.specs.Bool.{then_some}
use Rattle.smithy_strings.specs.Escapes.{escape}
use Rattle.smithy_binding.specs.Answer.{place}
use Rattle.smithy_binding.specs.Bindings.{headers, query_names}
use Rattle.smithy_binding.specs.Bodies.{body}
use Rattle.smithy_binding.specs.Checked.{checked_input}
use Rattle.smithy_binding.specs.Faults.{fault}
use Rattle.smithy_binding.specs.NormalForm.{view}
use Rattle.smithy_binding.specs.Placing.{Protocol, OmitFlags, template_of}
use Rattle.smithy_binding.specs.Protocols.{Parts, protocol_of}
use Rattle.smithy_binding.specs.Typed.{IsTyped, writes_default, has_clear_template}
use Rattle.smithy_recovery.specs.BodyParts.{payload_part, body_part, reads_body, is_told}
use Rattle.smithy_recovery.specs.HeaderParts.{named_header}
use Rattle.smithy_recovery.specs.LabelParts.{label_part}
use Rattle.smithy_recovery.specs.MapParts.{prefix_part, query_map_part}
use Rattle.smithy_recovery.specs.MemberParts.{part_writes, with_body}
use Rattle.smithy_recovery.specs.PathParts.{path_texts}
use Rattle.smithy_recovery.specs.QueryParts.{pieces_named, query_texts, query_part}
use Rattle.smithy_recovery.specs.SameFacts.{has_same_facts}
use Rattle.smithy_recovery.specs.TypedWrites.{has_typed_writes}

-- by what a request is read: a protocol, what its codec's reader has at hand over bytes, a schema and an endpoint
pub record Reading : Type 0 where
  pub protocol : Protocol
  pub holds : List ℕ → Option Held
  pub schema : Schema
  pub endpoint : List ℕ

-- the reading by the parts of a protocol, with the texts of its codec and what its reader has at hand
abbrev pub reading_by : {C : Type 0} → (C → Document → List ℕ) → (C → List ℕ → Option Held) → Parts C → Schema → List ℕ → Reading
reading_by text holds parts schema endpoint =
    record { protocol = protocol_of text parts; holds = holds parts.codec; schema = schema; endpoint = endpoint }

abbrev pub template : Reading → Template
template r = pieces (template_of r.schema r.endpoint)

-- what a request has of a member
abbrev pub part_at : Reading → Request → List (List ℕ × List ℕ) → Binding → Schema → Option (Option Value)
part_at r q texts (to_header name) m = named_header name q.headers m
part_at r q texts (to_prefix prefix) m = prefix_part m prefix q.headers
part_at r q texts (to_query name) m =
    option_and_then (query_part m) (query_texts (template r) (pieces_named (escape name) (query_pieces q.target)) name)
part_at r q texts to_query_map m = query_map_part (template r) (query_names r.schema) m (query_pieces q.target)
part_at r q texts to_label m = label_part m texts
part_at r q texts to_payload m = payload_part r.holds m q.body
part_at r q texts to_body m = Some None

-- the writes of the body where some member stands there
abbrev pub body_writes : Reading → Request → Option (List Write)
body_writes r q = body_part r.holds r.schema q.body

-- the writes that are read of a request, in index order
unfoldable pub read_writes : Reading → Request → Option (List Write)
read_writes r q =
    option_and_then
    (λ texts. with_body (part_writes (λ p. part_at r q texts (binding_of p.1) p.1) (enumerate_from 0 (members_of r.schema))) (body_writes r q))
    (path_texts (template r) (before_query q.target))

-- the codec's reader tells what it has of the body, where it is asked
abbrev pub is_body_told : Reading → Request → Bool
is_body_told r q = is_told (reads_body r.schema q.body) (r.holds q.body)

-- a header member with a default's name is written where that default would be added
abbrev pub writes_defaults : Protocol → Schema → OmitFlags → List Write → Bool
writes_defaults protocol schema omit ws =
    list_all (λ m. writes_default (body protocol.text_of schema ws) omit (headers schema ws) (binding_of m)) (members_of schema)

-- the facts of typed inputs, as tests: of each write alone, and of the whole
abbrev pub is_typed : Protocol → Schema → List ℕ → OmitFlags → List Write → Bool
is_typed protocol schema endpoint omit ws =
    has_typed_writes schema ws
    && (is_none (fault schema ws endpoint) && (writes_defaults protocol schema omit ws && has_clear_template schema endpoint))

-- the input has a request with the facts of this one, as a test
abbrev pub is_placed_so : Reading → OmitFlags → Request → List Write → Bool
is_placed_so r omit q ws = option_map_or (λ p. has_same_facts p q) (place r.protocol r.schema ws r.endpoint omit) false

-- The writes that are read, where they are a typed input's whose request has the same facts.
unfoldable pub recovered : Reading → OmitFlags → Request → Option (List Write)
recovered r omit q =
    option_and_then (λ ws. then_some (is_typed r.protocol r.schema r.endpoint omit ws && is_placed_so r omit q ws) ws) (read_writes r q)

-- a typed input in normal form whose request has the same facts
pub record IsRecovered (r : Reading) (omit : OmitFlags) (q : Request) (ws : List Write) : Type 0 where
  pub typed : IsTyped r.protocol r.schema r.endpoint omit ws
  pub normal : view r.schema ws ≡ ws
  pub seen : option_map facts (place r.protocol r.schema ws r.endpoint omit) ≡ Some (facts q)

-- What is recovered is that input, and nothing where there is none.
abbrev pub RecoveredIsExact : Reading → Type 0
RecoveredIsExact r =
    (omit : OmitFlags) (q : Request) (ws : List Write) → IsTrue (checked_input r.schema) → IsTrue (is_well_made r.schema) →
    (recovered r omit q ≡ Some ws) ↔ IsRecovered r omit q ws

-- The same by a protocol and what its codec's reader has at hand, for every schema and endpoint.
abbrev pub RecoversExactly : Protocol → (List ℕ → Option Held) → Type 0
RecoversExactly protocol holds =
    (schema : Schema) (endpoint : List ℕ) → RecoveredIsExact (record { protocol = protocol; holds = holds; schema = schema; endpoint = endpoint })
