-- The normal form of an input: what a request tells of it.
use Rattle.std.specs.Prelude.{ℕ, Bool, true, false, not, ◌&&◌, List, [], filter, filter_map, map, Option, Some, None, option_map, option_and_then, if◌then◌else◌}
use Rattle.smithy_binding.specs.Words.{enumerate_from, last_or, str_to_ascii_lowercase, is_one_of, same_kind, Schema, element_of, value_of, members_of, Binding, to_header, to_prefix, to_query, to_query_map, to_payload, binding_of, is_bound, Value, scalar, text, blob, list, no_writes, Write, label_of, Resolved, all_resolved, first, is_of}
use Rattle.smithy_ids.specs.declared.shape_type.ShapeType.TheVariants as kind
use Rattle.smithy_serde.specs.Values as value
use Rattle.smithy_serde.specs.NormalBody.{in_key_order, map_value, settled, settled_elements, settled_entries}
use Rattle.smithy_binding.specs.Bindings.{query_names}
use Rattle.smithy_binding.specs.Bodies.{is_codec_kind}

-- the entries of a map, over the schema's own nodes
abbrev pub own_entries : Schema → Value → List (List ℕ × Value)
own_entries m (value.map ws) = settled_entries (value_of m) ws
own_entries m _ = []

-- the keys in lower case, as header names stand in a request
abbrev pub in_lower_case : List (List ℕ × Value) → List (List ℕ × Value)
in_lower_case es = map (λ e. (str_to_ascii_lowercase e.0, e.1)) es

-- a value that leaves nothing in the query, the headers or a raw body
abbrev pub is_empty_value : Value → Bool
is_empty_value (list no_writes) = true
is_empty_value (value.map no_writes) = true
is_empty_value (scalar (blob [])) = true
is_empty_value (scalar (text [])) = true
is_empty_value _ = false

-- the value, if it leaves something
abbrev pub unless_empty : Value → Option Value
unless_empty v = if is_empty_value v then None else Some v

-- a list with the labels of the schema's element node
abbrev pub with_own_elements : Schema → Value → Value
with_own_elements m (list ws) = list (settled_elements (element_of m) ws)
with_own_elements m v = v

-- a list without elements
abbrev pub is_empty_list : Value → Bool
is_empty_list (list no_writes) = true
is_empty_list _ = false

-- the key of an entry is none of these names
abbrev pub has_key_outside : List (List ℕ) → List ℕ × Value → Bool
has_key_outside names e = not (is_one_of e.0 names)

-- the entry leaves a pair in the query, beside query members of these names
abbrev pub has_pairs : List (List ℕ) → List ℕ × Value → Bool
has_pairs names e = has_key_outside names e && not (is_empty_list e.1)

-- what is left of the value of a bound member, beside query members of these names
abbrev pub bound_view_at : Binding → List (List ℕ) → Schema → Value → Option Value
bound_view_at (to_header name) names m v = Some (with_own_elements m v)
bound_view_at (to_prefix prefix) names m v = unless_empty (map_value (Some m) (in_key_order (in_lower_case (own_entries m v))))
bound_view_at (to_query name) names m v = if same_kind m.node.kind kind.List then unless_empty (with_own_elements m v) else Some v
bound_view_at to_query_map names m v = unless_empty (map_value (Some m) (filter (has_pairs names) (in_key_order (own_entries m v))))
bound_view_at to_payload names m v = if is_codec_kind m.node.kind then Some (settled (Some m) v) else unless_empty v
bound_view_at _ names m v = Some v

-- the value of a bound member, or none where nothing of it is left
abbrev pub bound_view : Schema → Resolved → Option Value
bound_view schema r = bound_view_at (binding_of r.member) (query_names schema) r.member r.value

-- the last write to the member at this position
abbrev pub last_of : ℕ → List Resolved → Option Resolved
last_of position rs = last_or None (filter (is_of position) rs)

-- of a bound member its first write, of an unbound one its last
abbrev pub member_view : Schema → List Write → ℕ → Schema → Option Value
member_view schema ws position m =
    if is_bound m
    then option_and_then (bound_view schema) (first schema ws position)
    else option_map (λ r. settled (Some m) r.value) (last_of position (all_resolved schema ws))

-- The normal form: the members in index order, of a bound one its first write and of an unbound one its last, each with the schema's own nodes.
unfoldable pub view : Schema → List Write → List Write
view schema ws =
    filter_map (λ p. option_map (λ v. record { label = label_of p.1; value = v }) (member_view schema ws p.0 p.1))
    (enumerate_from 0 (members_of schema))
