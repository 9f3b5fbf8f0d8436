-- The bits of a routing word from a place on, and the members that they are of.
use Rattle.smithy_response.proofs.Common.{◌≡◌, ◌<◌, ◌≤◌, ℕ, ◌+◌, ◌-◌, Bool, true, false, not, cond, zero, suc, ◌≢◌, List, length, Option, Some, None, MatchOption, refl, sym, ap, ◌∙◌, arith, list_any, Schema, is_response_bound, members_of}
use Rattle.std.proofs.Common.{w64, [], ◌∷◌, ◌⊎◌, inl, inr, if◌then◌else◌, ◌==◌, ◌*◌, ◌/◌, ◌%◌, ◌^◌, take, drop, map, get_or}
use Rattle.std.specs.Int.{bit_at, trailing_zeros}
use Rattle.std.specs.Option.{option_map_or}
use Rattle.std.proofs.Math.Dec.{leb}
use Rattle.std.proofs.Math.Nat.{mod-lt, one-le-pow, mul_comm, div-add-mod, div-le_self}
use Rattle.std.proofs.lemmas.Bool.{eqb-true, eqb-false, le-leb}
use Rattle.std.proofs.lemmas.List.{length-map}
use Rattle.std.proofs.lemmas.Nat.Bits.{bit_at_above, bit_at_cat_high, bit_at-trailing_zeros, bit_at-zero}
use Rattle.smithy_schema.specs.Defining.{HasMembersInPlace}
use Rattle.std.specs.Simd.Lanes.{mask_l}
use Rattle.smithy_schema.specs.Routing.{bound_among, routing, is_bound_at, word_of}
use Rattle.smithy_schema.proofs.WordLemmas.{none_behind, some_unbound, any_bound, none_bound, in_body-bit, own-bit, bound_here, unbound_position, bound_within}
use Rattle.smithy_response.specs.Handed.{has_unbound}
use Rattle.smithy_response.specs.views.BoundPositions.{IsNextSet, IsNextBound, is_bound_position}

-- the bits of a schema's members
abbrev bound_in : Schema → List Bool
bound_in schema = bound_among schema.table schema.node.members

position_bit : (schema : Schema) (i : ℕ) → is_bound_position schema i ≡ get_or (bound_in schema) i false
position_bit schema i = sym (bound_here schema.table schema.node.members i)

-- a bit that is set where this holds
abbrev bit_of : Bool → ℕ
bit_of b = cond b 1 0

bit-false : (b : Bool) → bit_of b ≡ 0 → b ≡ false
bit-false true e = absurd (omega (arith, e))
bit-false false e = refl

bit-true : (b : Bool) → bit_of b ≡ 1 → b ≡ true
bit-true true e = refl
bit-true false e = absurd (omega (arith, e))

-- where the word tells all members, the bits from a place on are those of the members
pub next_by_bits : (schema : Schema) (word from : ℕ) (next : Option ℕ) → word ≡ routing schema → word < 9223372036854775808 → IsNextSet (word % 4611686018427387904) from next → IsNextBound schema from next
unfolding routing
next_by_bits schema word from next is low set = go next set
  where
    bound : List Bool
    bound = bound_in schema

    behind : list_any (λ b. b) (drop 62 bound) ≡ false
    behind = none_behind bound (rw (← is) low)

    bit : (i : ℕ) → bit_at (word % 4611686018427387904) i ≡ cond (get_or (take 62 bound) i false) 1 0
    bit i = rw is (own-bit bound i)

    unbound : (i : ℕ) → bit_at (word % 4611686018427387904) i ≡ 0 → is_bound_position schema i ≡ false
    unbound i e = position_bit schema i ∙ unbound_position 62 bound i (bit-false (get_or (take 62 bound) i false) (sym (bit i) ∙ e)) behind

    go : (next : Option ℕ) → IsNextSet (word % 4611686018427387904) from next → IsNextBound schema from next
    go None none = λ i h. unbound i (none i h)
    go (Some p) (later, one, zeros) =
        let within : p < length bound = bound_within 62 bound p (bit-true (get_or (take 62 bound) p false) (sym (bit p) ∙ one)) in
        let n : length bound ≡ length schema.node.members = length-map schema.node.members (is_bound_at schema.table) in
        (later, omega (arith, within, n), λ i low high. unbound i (zeros i low high))

-- the bits behind a place
bit-shifted : (bits from i : ℕ) → from ≤ i → bit_at bits i ≡ bit_at (bits / 2 ^ from) (i - from)
bit-shifted bits from i h =
    let small : bits % 2 ^ from < 2 ^ from = rest-below bits from in
    ap (λ (n : ℕ). bit_at n i) (parts bits from) ∙ bit_at_cat_high (bits / 2 ^ from) from (bits % 2 ^ from) i small h
  where
    rest-below : (n k : ℕ) → n % 2 ^ k < 2 ^ k
    rest-below n k = mod-lt n (one-le-pow k 2 (omega arith))

    parts : (n k : ℕ) → n ≡ n / 2 ^ k * 2 ^ k + n % 2 ^ k
    parts n k = sym (ap (λ (x : ℕ). x + n % 2 ^ k) (mul_comm (n / 2 ^ k) (2 ^ k)) ∙ div-add-mod n (2 ^ k))

-- none is set from a place on
pub none_past : (bits from : ℕ) → bits < 2 ^ 64 → 64 ≤ from → IsNextSet bits from None
none_past bits from low past i h = bit_at_above bits 64 i low (omega (arith, past, h))

pub none_left : (bits from : ℕ) → bits / 2 ^ from ≡ 0 → IsNextSet bits from None
none_left bits from e i h = bit-shifted bits from i h ∙ ap (λ (n : ℕ). bit_at n (i - from)) e ∙ bit_at-zero (i - from)

-- the lowest that is left
pub next_left : (bits from p : ℕ) → bits / 2 ^ from ≢ 0 → bits < 2 ^ 64 → p ≡ from + trailing_zeros w64 (bits / 2 ^ from) → IsNextSet bits from (Some p)
next_left bits from p some low is =
    let left = bits / 2 ^ from in
    let z = trailing_zeros w64 left in
    let lowest = bit_at-trailing_zeros w64 left (not-zero left some) (omega (arith, low, div-le_self bits (2 ^ from))) in
    let behind : p - from ≡ z = omega (arith, is) in (
      omega (arith, is),
      bit-shifted bits from p (omega (arith, is)) ∙ ap (bit_at left) behind ∙ lowest.1,
      λ i above below. bit-shifted bits from i above ∙ lowest.2 (i - from) (omega (arith, is, above, below)),
    )
  where
    not-zero : (n : ℕ) → n ≢ 0 → 0 < n
    not-zero zero e = absurd (e refl)
    not-zero (suc n) e = omega arith

-- whether some member isn't bound, and whether some is
pub unbound_by_bit : (schema : Schema) (word : ℕ) → HasMembersInPlace schema → word ≡ routing schema → (word / 4611686018427387904 % 2 == 1) ≡ has_unbound schema
unfolding routing
unbound_by_bit schema word in_place is =
    ap (λ (n : ℕ). n == 1) (ap (λ (w : ℕ). w / 4611686018427387904 % 2) is ∙ in_body-bit (bound_in schema)) ∙ go (list_any not (bound_in schema)) ∙ some_unbound schema in_place
  where
    go : (c : Bool) → (bit_of c == 1) ≡ c
    go true = refl
    go false = refl

-- a word with another bit than bit 62 is that of a bound member
none_unset : (bound : List Bool) → list_any (λ b. b) bound ≡ false → (word_of bound % 4611686018427387904 ≡ 0) × (word_of bound < 9223372036854775808)
none_unset bound none = go (list_any not bound) (no_bits 62 bound none) (none_later 62 bound none)
  where
    no_bits : (n : ℕ) (bs : List Bool) → list_any (λ b. b) bs ≡ false → mask_l (take n bs) ≡ 0
    no_bits zero bs e = refl
    no_bits (suc n) [] e = refl
    no_bits (suc n) (true ∷ bs) e = absurd (cc e)
    no_bits (suc n) (false ∷ bs) e = let rest = no_bits n bs e in omega (arith, rest)

    none_later : (n : ℕ) (bs : List Bool) → list_any (λ b. b) bs ≡ false → list_any (λ b. b) (drop n bs) ≡ false
    none_later zero bs e = e
    none_later (suc n) [] e = refl
    none_later (suc n) (true ∷ bs) e = absurd (cc e)
    none_later (suc n) (false ∷ bs) e = none_later n bs e

    go : (a : Bool) → mask_l (take 62 bound) ≡ 0 → list_any (λ b. b) (drop 62 bound) ≡ false
        → ((mask_l (take 62 bound) + (if a then 4611686018427387904 else 0) + (if list_any (λ b. b) (drop 62 bound) then 9223372036854775808 else 0)) % 4611686018427387904 ≡ 0)
        × (mask_l (take 62 bound) + (if a then 4611686018427387904 else 0) + (if list_any (λ b. b) (drop 62 bound) then 9223372036854775808 else 0) < 9223372036854775808)
    go true own behind = rw (own, behind) (refl, omega arith)
    go false own behind = rw (own, behind) (refl, omega arith)

-- whether some member is bound, by the word
some_by_word : (schema : Schema) (word : ℕ) → word ≡ routing schema → ((9223372036854775808 ≤ word) ⊎ (word % 4611686018427387904 ≢ 0)) → list_any is_response_bound (members_of schema) ≡ true
unfolding routing
some_by_word schema word is set = sym (any_bound schema.table schema.node.members) ∙ go (list_any (λ b. b) (bound_in schema)) refl
  where
    go : (b : Bool) → list_any (λ b. b) (bound_in schema) ≡ b → b ≡ true
    go true e = refl
    go false e = absurd (by_cases set)
      where
        none : (word_of (bound_in schema) % 4611686018427387904 ≡ 0) × (word_of (bound_in schema) < 9223372036854775808)
        none = none_unset (bound_in schema) e

        by_cases : ((9223372036854775808 ≤ word) ⊎ (word % 4611686018427387904 ≢ 0)) → ⊥
        by_cases (inl high) = omega (arith, high, is, none.1)
        by_cases (inr some) = some (ap (λ (n : ℕ). n % 4611686018427387904) is ∙ none.0)

none_by_word : (schema : Schema) (word : ℕ) → word ≡ routing schema → word < 9223372036854775808 → word % 4611686018427387904 ≡ 0 → list_any is_response_bound (members_of schema) ≡ false
unfolding routing
none_by_word schema word is low own = sym (any_bound schema.table schema.node.members) ∙ none_bound (bound_in schema) (rw (← is) own) (rw (← is) low)

-- a word with bit 63
pub bound_behind : (schema : Schema) (word : ℕ) → word ≡ routing schema → 9223372036854775808 ≤ word → leb 9223372036854775808 word ≡ list_any is_response_bound (members_of schema)
bound_behind schema word is high = le-leb 9223372036854775808 word high ∙ sym (some_by_word schema word is (inl high))

-- a word without it
pub bound_own : (schema : Schema) (word : ℕ) → word ≡ routing schema → word < 9223372036854775808 → not (word % 4611686018427387904 == 0) ≡ list_any is_response_bound (members_of schema)
bound_own schema word is low = go (word % 4611686018427387904 == 0) refl
  where
    go : (b : Bool) → (word % 4611686018427387904 == 0) ≡ b → not b ≡ list_any is_response_bound (members_of schema)
    go true e = sym (none_by_word schema word is low (eqb-true (word % 4611686018427387904) 0 e))
    go false e = sym (some_by_word schema word is (inr (eqb-false (word % 4611686018427387904) 0 e)))
