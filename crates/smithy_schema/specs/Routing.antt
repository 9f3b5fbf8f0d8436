-- The routing word of a structure: which members a response has outside its body, as the bits of one number.
use Rattle.std.specs.Prelude.{ℕ, ◌+◌, ◌^◌, Bool, false, not, List, map, take, drop, if◌then◌else◌}
use Rattle.std.specs.List.{list_any}
use Rattle.std.specs.Option.{option_map_or}
use Rattle.std.specs.Simd.Lanes.{mask_l}
use Rattle.smithy_schema.specs.Nodes.{Table, Schema, at_place, is_response_bound}

-- the node at the place stands outside the body of a response; a hole doesn't
abbrev pub is_bound_at : Table → ℕ → Bool
is_bound_at table place = option_map_or is_response_bound (at_place table place) false

-- of each of these places, whether it does
abbrev pub bound_among : Table → List ℕ → List Bool
bound_among table places = map (is_bound_at table) places

-- The number whose bit i, for i at most 61, says whether the member at position i is bound: the lowest bit is the first member's.
-- Bit 62 is set where some member isn't, bit 63 where one at position 62 or later is.
abbrev pub word_of : List Bool → ℕ
word_of bound =
    mask_l (take 62 bound) + (if list_any not bound then 2 ^ 62 else 0) + (if list_any (λ b. b) (drop 62 bound) then 2 ^ 63 else 0)

-- the word of the schema's members
unfoldable pub routing : Schema → ℕ
routing schema = word_of (bound_among schema.table schema.node.members)
