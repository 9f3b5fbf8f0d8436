-- The normal form of an output: what its response gives back.
use Rattle.std.specs.Prelude.{ℕ, List, [], filter_map, Option, Some, None, option_map, option_and_then, if◌then◌else◌}
use Rattle.std.specs.List.{enumerate_from}
use Rattle.std.specs.Option.{option_map_or}
use Rattle.smithy_schema.specs.Nodes.{Schema, members_of, is_response_bound}
use Rattle.smithy_serde.specs.NormalBody.{in_key_order, map_value, settled}
use Rattle.smithy_serde.specs.ValueRead.{write_by}
use Rattle.smithy_serde.specs.Values.{Value, Write}
use Rattle.smithy_serde.specs.Writes.{all_resolved, first}
use Rattle.smithy_binding.specs.Bindings.{texts, header_texts}
use Rattle.smithy_binding.specs.Bodies.{is_codec_kind}
use Rattle.smithy_binding.specs.NormalForm.{own_entries, in_lower_case, with_own_elements, unless_empty, last_of}
use Rattle.smithy_response.specs.Routes.{Source, in_header, in_prefix, in_status, in_payload, in_body, source_of, has_nothing}

-- the text of a header's value, if it has one
abbrev pub header_values : Schema → Value → List (List ℕ)
header_values m v = option_map_or (header_texts m v) (texts m v) []

-- a header's value, with the schema's own elements; nothing where its text is empty, but for a text that is the header as it is
abbrev pub header_view : Schema → Value → Option Value
header_view m v = if has_nothing m (header_values m v) then None else Some (with_own_elements m v)

-- the entries behind a prefix, the keys in lower case, of equal ones the last
abbrev pub prefix_view : Schema → Option Value → Value
prefix_view m o = map_value (Some m) (in_key_order (in_lower_case (option_map_or (own_entries m) o [])))

-- a payload: a document as the body has it; bytes and a text where they are not empty, and none that are streamed
abbrev pub payload_view : Schema → Value → Option Value
payload_view m v =
    if m.node.traits.streaming then None
    else if is_codec_kind m.node.kind then Some (settled (Some m) v)
    else unless_empty v

-- What is left of the value of a bound member's first write. A prefix map is there in any case, empty where it is not written.
abbrev pub bound_view : Source → Schema → Option Value → Option Value
bound_view (in_header name) m o = option_and_then (header_view m) o
bound_view (in_prefix prefix) m o = Some (prefix_view m o)
bound_view in_status m o = o
bound_view in_payload m o = option_and_then (payload_view m) o
bound_view in_body m o = o

-- the value of the first write to the member at a position
abbrev pub first_value : Schema → List Write → ℕ → Option Value
first_value schema ws position = option_map (λ r. r.value) (first schema ws position)

-- of a bound member what is left of its first write, of an unbound one its last
abbrev pub member_view : Schema → List Write → ℕ → Schema → Option Value
member_view schema ws position m =
    if is_response_bound m
    then bound_view (source_of m) m (first_value schema ws position)
    else option_map (λ r. settled (Some m) r.value) (last_of position (all_resolved schema ws))

-- The normal form: the members in index order, each with the schema's own nodes.
unfoldable pub answer_view : Schema → List Write → List Write
answer_view schema ws =
    filter_map (λ p. option_map (write_by p.1) (member_view schema ws p.0 p.1)) (enumerate_from 0 (members_of schema))
