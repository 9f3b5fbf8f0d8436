-- The member that a write is for, with its position.
use Rattle.std.specs.Prelude.{◌≡◌, ℕ, Bool, false, Option, option_map, option_and_then}
use Rattle.smithy_binding.specs.Words.{option_map_or, Schema, SchemaRef, schema_of, label_of, member_at, binding_of, Label, resolve}
use Rattle.smithy_binding.specs.ResponseCodes.{is_label}
use Rattle.smithy_binding.specs.declared.direction.DirectedSchema.{DirectedSchema}
use Rattle.smithy_binding.specs.views.Directed.{directed_of}

abbrev pub found_of : ℕ × DirectedSchema → ℕ × Schema
found_of found = (found.0, directed_of found.1)

-- the member at the position
abbrev pub found_at : Schema → ℕ → Option (ℕ × Schema)
found_at schema position = option_map (λ m. (position, m)) (member_at schema position)

-- the member for which the label of a write is
abbrev pub finds : Schema → Label → Option (ℕ × Schema)
finds schema l = option_and_then (found_at schema) (resolve schema l)

-- the code found it
abbrev pub Finds : DirectedSchema → SchemaRef → Option (ℕ × DirectedSchema) → Type 0
Finds schema written result = option_map found_of result ≡ finds (directed_of schema) (label_of (schema_of written))

-- the member for which it is stands in the first line
abbrev pub is_code_label : Schema → Label → Bool
is_code_label schema l = option_map_or (λ f. is_label (binding_of f.1)) (finds schema l) false
