-- Whether the value of some member is the body's, where members that are not bound are passed over.
use Rattle.std.proofs.Common.{◌≡◌, ◌<◌, ◌≤◌, ◌||◌, ℕ, zero, suc, ◌+◌, ◌-◌, Bool, true, false, length, Option, Some, None, refl, ap, ◌∙◌, arith}
use Rattle.std.specs.Option.{option_map_or}
use Rattle.smithy_response.proofs.Common.{list_any, cons_option, is_some, Schema, member_at, is_response_bound, members_from}
use Rattle.smithy_response.proofs.Members.{from-end}
use Rattle.smithy_binding.proofs.MemberSteps.{members_from-more}
use Rattle.smithy_response.specs.views.BoundPositions.{IsNextBound, is_bound_position, is_payload_position}

-- the members from a position on
abbrev payload_from : Schema → ℕ → Bool
payload_from schema i = list_any (λ m. m.node.traits.http_payload) (members_from schema i)

step : (schema : Schema) (i : ℕ) → payload_from schema i ≡ (is_payload_position schema i || payload_from schema (i + 1))
step schema i = ap (list_any (λ m. m.node.traits.http_payload)) (members_from-more schema i) ∙ go (member_at schema i)
  where
    go : (o : Option Schema) → list_any (λ m. m.node.traits.http_payload) (cons_option o (members_from schema (i + 1))) ≡ (option_map_or (λ m. m.node.traits.http_payload) o false || payload_from schema (i + 1))
    go None = refl
    go (Some m) = refl

pub found_at : (schema : Schema) (i : ℕ) → is_payload_position schema i ≡ true → payload_from schema i ≡ true
found_at schema i e = step schema i ∙ ap (λ b. b || payload_from schema (i + 1)) e

pub passed_at : (schema : Schema) (i : ℕ) → is_payload_position schema i ≡ false → payload_from schema i ≡ payload_from schema (i + 1)
passed_at schema i e = step schema i ∙ ap (λ b. b || payload_from schema (i + 1)) e

or_last : (a b c d : Bool) → (a || b || c || d) ≡ false → d ≡ false
or_last true b c d e = absurd (cc e)
or_last false true c d e = absurd (cc e)
or_last false false true d e = absurd (cc e)
or_last false false false d e = e

-- a payload is bound
unbound_at : (schema : Schema) (i : ℕ) → is_bound_position schema i ≡ false → is_payload_position schema i ≡ false
unbound_at schema i = go (member_at schema i)
  where
    go : (o : Option Schema) → option_map_or is_response_bound o false ≡ false → option_map_or (λ m. m.node.traits.http_payload) o false ≡ false
    go None e = refl
    go (Some m) e = or_last (is_some m.node.traits.http_header) (is_some m.node.traits.http_prefix_headers) m.node.traits.http_response_code m.node.traits.http_payload e

passes : (schema : Schema) (n i : ℕ) → ((j : ℕ) → i ≤ j → j < i + n → is_bound_position schema j ≡ false) → payload_from schema i ≡ payload_from schema (i + n)
passes schema zero i unbound = let same : i + 0 ≡ i = omega arith in rw same refl
passes schema (suc n) i unbound =
    let next : i + suc n ≡ i + 1 + n = omega arith in
    rw next (passed_at schema i (unbound_at schema i (unbound i (omega arith) (omega arith))) ∙ passes schema n (i + 1) (λ j low high. unbound j (omega (arith, low)) (omega (arith, high))))

-- up to the next bound one
pub to_bound : (schema : Schema) (from to : ℕ) → IsNextBound schema from (Some to) → payload_from schema from ≡ payload_from schema to
to_bound schema from to (later, within, unbound) =
    let same : from + (to - from) ≡ to = omega (arith, later) in
    passes schema (to - from) from (λ j low high. unbound j low (omega (arith, later, high))) ∙ ap (payload_from schema) same

-- and to the end, where none is left
pub none_left : (schema : Schema) (from : ℕ) → ((i : ℕ) → from ≤ i → is_bound_position schema i ≡ false) → payload_from schema from ≡ false
none_left schema from unbound =
    passes schema (length schema.node.members) from (λ j low high. unbound j low) ∙ ap (list_any (λ m. m.node.traits.http_payload)) (from-end schema (from + length schema.node.members) (omega arith))
