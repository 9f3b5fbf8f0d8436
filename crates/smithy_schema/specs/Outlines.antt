-- A node without what it cites.
use Rattle.smithy_schema.specs.Nodes.{Node, bare_node, no_traits}

-- the node with its names, its kind and its index alone
abbrev pub named_part : Node → Node
named_part n = record (bare_node n.full_name n.kind) { member_name = n.member_name; member_index = n.member_index }

-- the same with its time format: all that the meaning of a write depends on, and its kind
abbrev pub outline_of : Node → Node
outline_of n = record (named_part n) { traits = record no_traits { timestamp_format = n.traits.timestamp_format } }
