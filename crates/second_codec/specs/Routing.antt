-- One number that says which members a response binds (Smithy, HTTP protocol bindings).
use Rattle.std.specs.Prelude.{ℕ, ◌+◌, ◌*◌, ◌^◌, Bool, false, not, List, [], ◌∷◌, if◌then◌else◌, drop, take}
use Rattle.std.specs.List.{list_any}
use Rattle.std.specs.Option.{option_map_or}
use Rattle.smithy_schema.specs.Nodes.{Schema, at_place, is_response_bound}

-- the number whose bit i is set where the test passes at position i
abbrev pub bits_where : (ℕ → Bool) → List ℕ → ℕ
bits_where test [] = 0
bits_where test (place ∷ places) = (if test place then 1 else 0) + 2 * bits_where test places

-- a member stands at the place, and the test passes on it
abbrev pub has_at : Schema → (Schema → Bool) → ℕ → Bool
has_at schema test place = option_map_or test (at_place schema.table place) false

-- Bits 0 to 61: the member at that position is response-bound. Bit 62: some member is not. Bit 63: a response-bound member stands at position 62 or later.
abbrev pub routing : Schema → ℕ
routing schema =
    let places = schema.node.members in
    bits_where (has_at schema is_response_bound) (take 62 places)
    + (if list_any (has_at schema (λ m. not (is_response_bound m))) places then 2 ^ 62 else 0)
    + (if list_any (has_at schema is_response_bound) (drop 62 places) then 2 ^ 63 else 0)
