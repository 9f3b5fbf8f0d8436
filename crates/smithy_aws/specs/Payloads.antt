-- The payload of an input (Smithy, HTTP protocol bindings, httpPayload).
use Rattle.std.specs.Prelude.{ℕ, Bool, find, Option, Some, None, if◌then◌else◌}
use Rattle.std.specs.Option.{option_map_or}
use Rattle.smithy_schema.specs.Nodes.{Schema, binding_of, member_at, members_of}
use Rattle.smithy_binding.specs.Bodies.{is_payload}

abbrev pub is_payload_member : Schema → Bool
is_payload_member m = is_payload (binding_of m)

-- the member that is the payload
abbrev pub payload_of : Schema → Option Schema
payload_of schema = find is_payload_member (members_of schema)

abbrev pub if_payload : Schema → Option Schema
if_payload m = if is_payload_member m then Some m else None

-- the member at a position, where it is that
abbrev pub payload_at : Schema → ℕ → Option Schema
payload_at schema i = option_map_or if_payload (member_at schema i) None
