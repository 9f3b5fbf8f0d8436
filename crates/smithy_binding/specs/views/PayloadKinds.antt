-- The payload's kind and the unbound members, as one member after the other tells them.
use Rattle.std.specs.Prelude.{ℕ, Bool, false, not, Option, None, Some}
use Rattle.smithy_binding.specs.Words.{option_map_or, ShapeType, Schema, member_at, is_bound, Binding, to_payload, binding_of}

abbrev pub kind_at : Binding → Schema → Option ShapeType
kind_at to_payload m = Some m.node.kind
kind_at _ m = None

-- the kind of a member, where it is the payload
abbrev pub kind_if_payload : Option Schema → Option ShapeType
kind_if_payload None = None
kind_if_payload (Some m) = kind_at (binding_of m) m

-- an unbound member stands at the position
abbrev pub is_unbound_at : Schema → ℕ → Bool
is_unbound_at schema position = option_map_or (λ m. not (is_bound m)) (member_at schema position) false
