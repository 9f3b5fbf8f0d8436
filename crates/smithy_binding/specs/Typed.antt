-- Inputs that a request tells apart, up to their normal form.
use Rattle.std.specs.Prelude.{◌≡◌, ℕ, nat_le, Bool, true, not, ◌&&◌, ◌||◌, codes, List, [], ◌∷◌, filter, Option, Some, None, option_and_then, is_some, IsTrue}
use Rattle.smithy_binding.specs.Words.{list_all, AllByRecursion, option_map_or, str_to_ascii_lowercase, found, same_text, is_one_of, are_distinct, Document, nesting, TimestampFormat, Schema, element_of, members_of, Binding, to_header, binding_of, is_bound, Value, list, Write, list_of, keys_of, doc_of, Resolved, all_resolved, firsts}
use Rattle.smithy_serde.specs.Values as value
use Rattle.smithy_serde.specs.Ranges.{are_in_range}
use Rattle.smithy_serde.specs.Lawful.{max_nesting}
use Rattle.smithy_serde.specs.Shaped.{is_shaped}
use Rattle.smithy_binding.specs.Bindings.{headers, inserted}
use Rattle.smithy_binding.specs.Bodies.{Body, is_payload, is_codec_kind, body, document_value}
use Rattle.smithy_binding.specs.Placing.{Protocol, OmitFlags, adds_content_type, adds_content_length, template_of}
use Rattle.smithy_binding.specs.Faults.{fault, is_placed_at}
use Rattle.smithy_binding.specs.Clear.{is_clear}
use Rattle.smithy_binding.specs.Checked.{same_format}

-- a map has each key once
abbrev pub has_distinct_keys : Value → Bool
has_distinct_keys (value.map ws) = are_distinct (keys_of ws)
has_distinct_keys _ = true

-- the time format of the schema's element node (timestampFormat)
abbrev pub element_format : Schema → Option TimestampFormat
element_format m = option_and_then (λ e. e.node.traits.timestamp_format) (element_of m)

-- the elements of a list are written with the time format of the schema's element node
abbrev pub has_own_formats : Schema → Value → Bool
has_own_formats m (list ws) = list_all (λ w. same_format w.label.time_format (element_format m)) (list_of ws)
has_own_formats m _ = true

-- what is asked of the value of a member in the target or the headers beside fitting
abbrev pub is_placed_typed : Resolved → Bool
is_placed_typed r =
    not (is_placed_at (binding_of r.member)) || (has_distinct_keys r.value && has_own_formats r.member r.value)

-- the value is shaped by its member's node
abbrev pub is_shaped_write : Resolved → Bool
is_shaped_write r = is_shaped (Some r.member) r.value

-- the writes to unbound members, each with its member
abbrev pub bodied : Schema → List Write → List Resolved
bodied schema ws = filter (λ r. not (is_bound r.member)) (all_resolved schema ws)

-- a payload whose document is the body (httpPayload)
abbrev pub is_codec_payload : Schema → Bool
is_codec_payload m = is_payload (binding_of m) && is_codec_kind m.node.kind

-- the first write of such a payload is shaped
abbrev pub is_shaped_payload : Schema → List Write → Bool
is_shaped_payload schema ws = list_all (λ r. not (is_codec_payload r.member) || is_shaped_write r) (firsts schema ws)

-- the names of the headers that a protocol adds by itself
abbrev pub default_names : List (List ℕ)
default_names = codes "content-type" ∷ codes "content-length" ∷ []

-- the default header with this name is added unless such a name stands
abbrev pub wants_default : Body → OmitFlags → List ℕ → Bool
wants_default b omit name =
    (same_text name (codes "content-type") && adds_content_type b omit)
    || (same_text name (codes "content-length") && adds_content_length b omit)

-- no default is added under this name, among these headers
abbrev pub leaves_default : Body → OmitFlags → List (List ℕ × List ℕ) → List ℕ → Bool
leaves_default b omit pairs name = not (wants_default b omit name) || is_some (found name pairs)

-- a header member with a default's name is written where that default would be added
abbrev pub writes_default : Body → OmitFlags → List (List ℕ × List ℕ) → Binding → Bool
writes_default b omit pairs (to_header name) = leaves_default b omit pairs (str_to_ascii_lowercase name)
writes_default b omit pairs _ = true

-- no entry of a prefix map has a default's name
abbrev pub has_no_default_name : Binding → Resolved → Bool
has_no_default_name (to_header name) r = true
has_no_default_name _ r = list_all (λ p. not (is_one_of p.0 default_names)) (inserted r)

-- without `@http` the template that is taken is clear
abbrev pub has_clear_template : Schema → List ℕ → Bool
has_clear_template schema endpoint = is_some schema.node.traits.http || is_clear (template_of schema endpoint) schema

-- the document, if there is one, is not nested too deep
abbrev pub is_shallow : Option Document → Bool
is_shallow d = option_map_or (λ d. nat_le (nesting d) max_nesting) d true

-- The inputs of a protocol, schema, endpoint and omit choice that a request tells apart, up to their normal form.
pub record IsTyped (protocol : Protocol) (schema : Schema) (endpoint : List ℕ) (omit : OmitFlags) (ws : List Write) : Type 0 where
  pub in_range : IsTrue (are_in_range ws)
  pub conforming : fault schema ws endpoint ≡ None
  pub unbound_shaped : AllByRecursion (λ r. IsTrue (is_shaped_write r)) (bodied schema ws)
  pub payload_shaped : IsTrue (is_shaped_payload schema ws)
  pub placed_values : AllByRecursion (λ r. IsTrue (is_placed_typed r)) (firsts schema ws)
  pub defaults : IsTrue (list_all (λ m. writes_default (body protocol.text_of schema ws) omit (headers schema ws) (binding_of m)) (members_of schema))
  pub prefixed : AllByRecursion (λ r. IsTrue (has_no_default_name (binding_of r.member) r)) (firsts schema ws)
  pub clear : IsTrue (has_clear_template schema endpoint)
  pub shallow : IsTrue (is_shallow (option_and_then doc_of (document_value schema ws)))
