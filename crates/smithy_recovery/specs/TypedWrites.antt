-- What is asked of each write of a recovered input alone.
use Rattle.std.specs.Prelude.{ℕ, ◌-◌, Bool, true, false, not, ◌&&◌, ◌++◌, List, Option, Some, option_and_then, if◌then◌else◌}
use Rattle.std.specs.List.{list_all}
use Rattle.std.specs.Option.{option_map_or}
use Rattle.std.specs.Str.{str_to_ascii_lowercase}
use Rattle.smithy_types.specs.Texts.{are_distinct, is_one_of}
use Rattle.smithy_ids.specs.declared.traits.TimestampFormat.{TimestampFormat}
use Rattle.smithy_schema.specs.Nodes.{Schema, member_at, Binding, to_prefix, to_payload, to_body, binding_of}
use Rattle.smithy_serde.specs.Lawful.{max_nesting}
use Rattle.smithy_serde.specs.Ranges.{is_in_range}
use Rattle.smithy_serde.specs.Shaped.{is_shaped}
use Rattle.smithy_serde.specs.Values as value
use Rattle.smithy_serde.specs.Values.{Label, Value, list, Writes, Write, list_of, keys_of}
use Rattle.smithy_binding.specs.Bindings.{inserted_at}
use Rattle.smithy_binding.specs.Bodies.{is_codec_kind}
use Rattle.smithy_binding.specs.Checked.{same_format}
use Rattle.smithy_binding.specs.Typed.{element_format, default_names}
use Rattle.smithy_recovery.specs.Shallow.{is_shallow_at}

-- the value is shaped by the node, and nested at most so deep
abbrev pub is_typed_document : ℕ → Schema → Value → Bool
is_typed_document levels m v = is_shallow_at levels v && is_shaped (Some m) v

-- of a payload: its document is the body, or its bytes are (httpPayload)
abbrev pub is_typed_payload : Schema → Value → Bool
is_typed_payload m v = if is_codec_kind m.node.kind then is_typed_document max_nesting m v else is_in_range v

-- the elements of a list are written with this time format
abbrev pub have_format : Option TimestampFormat → Writes → Bool
have_format format ws = list_all (λ w. same_format w.label.time_format format) (list_of ws)

-- each key of a map stands once, and the elements of a list have their node's time format
abbrev pub has_sound_parts : Schema → Value → Bool
has_sound_parts m (value.map ws) = are_distinct (keys_of ws)
has_sound_parts m (list ws) = have_format (element_format m) ws
has_sound_parts m _ = true

-- of a value in the target or the headers
abbrev pub is_typed_text : Schema → Value → Bool
is_typed_text m v = is_in_range v && has_sound_parts m v

-- the header of an entry has a default's name
abbrev pub is_default_behind : (prefix key : List ℕ) → Bool
is_default_behind prefix key = is_one_of (str_to_ascii_lowercase (prefix ++ key)) default_names

-- no header of an entry has a default's name (httpPrefixHeaders)
abbrev pub has_no_default : List ℕ → Schema → Value → Bool
has_no_default prefix m v = list_all (λ p. not (is_one_of p.0 default_names)) (inserted_at (to_prefix prefix) m v)

-- of a map in the headers behind a prefix
abbrev pub is_typed_entries : List ℕ → Schema → Value → Bool
is_typed_entries prefix m v = is_typed_text m v && has_no_default prefix m v

-- by where the member stands; a document in the object of the body is one level down
abbrev pub is_typed_at : Binding → Schema → Value → Bool
is_typed_at (to_prefix prefix) m v = is_typed_entries prefix m v
is_typed_at to_payload m v = is_typed_payload m v
is_typed_at to_body m v = is_typed_document (max_nesting - 1) m v
is_typed_at _ m v = is_typed_text m v

abbrev pub is_typed_value : Schema → Value → Bool
is_typed_value m v = is_typed_at (binding_of m) m v

-- the member at the index of a write's node
abbrev pub member_by_index : Schema → Label → Option Schema
member_by_index schema l = option_and_then (member_at schema) l.member_index

-- the write is to a member, by the index of its node, and its value is one of a typed input's
abbrev pub is_typed_write : Schema → Write → Bool
is_typed_write schema w = option_map_or (λ m. is_typed_value m w.value) (member_by_index schema w.label) false

abbrev pub has_typed_writes : Schema → List Write → Bool
has_typed_writes schema ws = list_all (is_typed_write schema) ws
