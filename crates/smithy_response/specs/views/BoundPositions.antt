-- The positions of the members that a response may have outside its body, as the code finds them.
use Rattle.std.specs.Prelude.{◌≡◌, ◌<◌, ◌≤◌, ℕ, Bool, false, length, Option, MatchOption, IfSome, ◌-◌, ◌^◌}
use Rattle.std.specs.Int.{bit_at}
use Rattle.smithy_response.specs.Words.{option_map_or, Schema, is_response_bound}
use Rattle.smithy_schema.specs.Nodes.{member_at}

-- from a place on the first bit that is set
abbrev pub IsNextSet : ℕ → ℕ → Option ℕ → Type 0
IsNextSet bits from next =
    MatchOption next ((i : ℕ) → from ≤ i → bit_at bits i ≡ 0)
    (λ p. (from ≤ p) × (bit_at bits p ≡ 1) × ((i : ℕ) → from ≤ i → i < p → bit_at bits i ≡ 0))

-- a number may stand behind it
abbrev pub HasNext : Option ℕ → Type 0
HasNext next = IfSome next (λ p. p < 2 ^ 64 - 1)

-- a bound member stands at the position
abbrev pub is_bound_position : Schema → ℕ → Bool
is_bound_position schema i = option_map_or is_response_bound (member_at schema i) false

-- the value of the member at the position is the body's
abbrev pub is_payload_position : Schema → ℕ → Bool
is_payload_position schema i = option_map_or (λ m. m.node.traits.http_payload) (member_at schema i) false

-- a member's position, from this one on, before which none is bound; or none of them is
abbrev pub IsNextBound : Schema → ℕ → Option ℕ → Type 0
IsNextBound schema from next =
    MatchOption next ((i : ℕ) → from ≤ i → is_bound_position schema i ≡ false)
    (λ p. (from ≤ p) × (p < length schema.node.members) × ((i : ℕ) → from ≤ i → i < p → is_bound_position schema i ≡ false))
