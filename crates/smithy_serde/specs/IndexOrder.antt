-- Writes in index order.
use Rattle.std.specs.Prelude.{ℕ, nat_lt, List, [], ◌∷◌, unwrap_or, if◌then◌else◌}
use Rattle.smithy_serde.specs.Values.{Write, Writes, list_of, writes_of}

-- x among what stands by a number, before those of its number
abbrev pub put_by : {X : Type 0} → (X → ℕ) → X → List X → List X
put_by number x [] = x ∷ []
put_by number x (y ∷ ys) = if nat_lt (number y) (number x) then y ∷ put_by number x ys else x ∷ y ∷ ys

-- by that number, those of one number in the order that they have
abbrev pub in_order_by : {X : Type 0} → (X → ℕ) → List X → List X
in_order_by number [] = []
in_order_by number (x ∷ xs) = put_by number x (in_order_by number xs)

-- the position of the member that a write is for, and the first of a write that has none
abbrev pub position_of : Write → ℕ
position_of w = unwrap_or w.label.member_index 0

abbrev pub in_order : List Write → List Write
in_order ws = in_order_by position_of ws

-- the same of writes inside a value
abbrev pub in_index_order : Writes → Writes
in_index_order ws = writes_of (in_order (list_of ws))
