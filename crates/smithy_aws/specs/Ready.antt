-- The writes of an input as AWS restJson1 takes them.
use Rattle.std.specs.Prelude.{Bool, false, not, ◌&&◌, Option, Some, None, option_and_then}
use Rattle.std.specs.Bool.{then_some}
use Rattle.std.specs.List.{list_any}
use Rattle.std.specs.Option.{option_map_or}
use Rattle.smithy_ids.specs.Kinds.{same_kind}
use Rattle.smithy_ids.specs.declared.shape_type.ShapeType.TheVariants as kind
use Rattle.smithy_schema.specs.Nodes.{Schema, member_at}
use Rattle.smithy_serde.specs.Present.{present_members}
use Rattle.smithy_serde.specs.Values.{Label, Writes, label_of, list_of, no_writes, structure, write}
use Rattle.smithy_serde.specs.Writes.{resolve}
use Rattle.smithy_aws.specs.Payloads.{is_payload_member, payload_of}

-- the member that a write with this node is for
abbrev pub member_for : Schema → Label → Option Schema
member_for schema l = option_and_then (member_at schema) (resolve schema l)

-- it is for the payload
abbrev pub is_for_payload : Schema → Label → Bool
is_for_payload schema l = option_map_or is_payload_member (member_for schema l) false

-- one of the writes is
abbrev pub is_written : Schema → Writes → Bool
is_written schema ws = list_any (λ w. is_for_payload schema w.label) (list_of ws)

-- the member, where it is a structure and isn't written
abbrev pub if_unwritten : Bool → Schema → Option Schema
if_unwritten is_written m = then_some (same_kind m.node.kind kind.Structure && not is_written) m

-- the payload, where it is a structure and none of the writes is for it
abbrev pub unwritten : Schema → Writes → Option Schema
unwritten schema ws = option_and_then (if_unwritten (is_written schema ws)) (payload_of schema)

-- an empty structure of this member, where there is one, before the writes
abbrev pub behind_empty : Option Schema → Writes → Writes
behind_empty None ws = ws
behind_empty (Some m) ws = write (label_of m) (structure no_writes) ws

-- The writes without those that are null, at every depth, and with an empty structure for a payload that is a structure and isn't
-- written (Smithy, data model, structure; AWS restJson1 protocol, httpPayload).
unfoldable pub ready : Schema → Writes → Writes
ready schema ws = behind_empty (unwritten schema (present_members ws)) (present_members ws)
