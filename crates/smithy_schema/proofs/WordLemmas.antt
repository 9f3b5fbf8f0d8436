-- What a routing word tells of the members.
use Rattle.std.proofs.Common.{◌≡◌, refl, sym, ap, ◌∙◌, ℕ, zero, suc, ◌+◌, ◌/◌, ◌%◌, ◌^◌, ◌<◌, arith, Bool, true, false, not, ◌||◌, cond, List, [], ◌∷◌, length, filter_map, drop, take, get_or, if◌then◌else◌, option_and_then, Option, Some, None}
use Rattle.std.specs.List.{list_any, slice_get, cons_option}
use Rattle.std.specs.Option.{option_map_or}
use Rattle.std.specs.Simd.Lanes.{mask_l}
use Rattle.std.proofs.lemmas.List.{length-take}
use Rattle.std.proofs.lemmas.Simd.{bit_mask_l}
use Rattle.smithy_schema.specs.Nodes.{Node, Table, Schema, at_place, node_at, is_response_bound, members_of}
use Rattle.smithy_schema.specs.Defining.{is_member, HasMembersInPlace}
use Rattle.smithy_schema.specs.Routing.{bound_among, word_of}
use Rattle.smithy_schema.proofs.RoutingLemmas.{bits-below}

own-lt : (bound : List Bool) → mask_l (take 62 bound) < 4611686018427387904
own-lt bound = let n = length-take 62 bound in bits-below 62 (take 62 bound) (omega (arith, n))

-- the bits of the members
pub own-bits : (bound : List Bool) → word_of bound % 4611686018427387904 ≡ mask_l (take 62 bound)
own-bits bound = go (mask_l (take 62 bound)) (list_any not bound) (list_any (λ b. b) (drop 62 bound)) (own-lt bound)
  where
    go : (m : ℕ) (a b : Bool) → m < 4611686018427387904 → (m + (if a then 4611686018427387904 else 0) + (if b then 9223372036854775808 else 0)) % 4611686018427387904 ≡ m
    go m true true h = omega arith
    go m true false h = omega arith
    go m false true h = omega arith
    go m false false h = omega arith

-- bit 62: some member isn't bound
pub in_body-bit : (bound : List Bool) → word_of bound / 4611686018427387904 % 2 ≡ cond (list_any not bound) 1 0
in_body-bit bound = go (mask_l (take 62 bound)) (list_any not bound) (list_any (λ b. b) (drop 62 bound)) (own-lt bound)
  where
    go : (m : ℕ) (a b : Bool) → m < 4611686018427387904 → (m + (if a then 4611686018427387904 else 0) + (if b then 9223372036854775808 else 0)) / 4611686018427387904 % 2 ≡ cond a 1 0
    go m true true h = omega arith
    go m true false h = omega arith
    go m false true h = omega arith
    go m false false h = omega arith

-- bit 63: some member without a bit of its own is
pub none_behind : (bound : List Bool) → word_of bound < 9223372036854775808 → list_any (λ b. b) (drop 62 bound) ≡ false
none_behind bound low = go (mask_l (take 62 bound)) (list_any not bound) (list_any (λ b. b) (drop 62 bound)) low
  where
    go : (m : ℕ) (a b : Bool) → (m + (if a then 4611686018427387904 else 0) + (if b then 9223372036854775808 else 0)) < 9223372036854775808 → b ≡ false
    go m a false h = refl
    go m true true h = absurd (omega (arith, h))
    go m false true h = absurd (omega (arith, h))

-- a place is bound as the member there
pub bound_here : (table : Table) (places : List ℕ) (i : ℕ) → get_or (bound_among table places) i false ≡ option_map_or is_response_bound (option_and_then (at_place table) (slice_get places i)) false
bound_here table [] i = refl
bound_here table (place ∷ places) zero = refl
bound_here table (place ∷ places) (suc i) = bound_here table places i

-- some member is bound, or some isn't
pub any_bound : (table : Table) (places : List ℕ) → list_any (λ b. b) (bound_among table places) ≡ list_any is_response_bound (filter_map (at_place table) places)
any_bound table [] = refl
any_bound table (place ∷ places) = go (at_place table place) (any_bound table places)
  where
    go : (o : Option Schema) → list_any (λ b. b) (bound_among table places) ≡ list_any is_response_bound (filter_map (at_place table) places)
        → (option_map_or is_response_bound o false || list_any (λ b. b) (bound_among table places)) ≡ list_any is_response_bound (cons_option o (filter_map (at_place table) places))
    go None rest = rest
    go (Some m) rest = ap (λ (b : Bool). is_response_bound m || b) rest

-- where a node stands at each of these places
any_unbound : (table : Table) (places : List ℕ) → ((position member : ℕ) → slice_get places position ≡ Some member → (m : Node) × (node_at table member ≡ Some m))
    → list_any not (bound_among table places) ≡ list_any (λ m. not (is_response_bound m)) (filter_map (at_place table) places)
any_unbound table [] stand = refl
any_unbound table (place ∷ places) stand =
    let here = stand 0 place refl in
    rw here.1 (ap (λ (b : Bool). not (is_response_bound (record { table = table; node = here.0 })) || b) (any_unbound table places (λ position member at. stand (suc position) member at)))

stands_there : (o : Option Node) (position : ℕ) → is_member o position ≡ true → (m : Node) × (o ≡ Some m)
stands_there None position is = absurd (cc is)
stands_there (Some m) position is = (m, refl)

pub some_unbound : (schema : Schema) → HasMembersInPlace schema → list_any not (bound_among schema.table schema.node.members) ≡ list_any (λ m. not (is_response_bound m)) (members_of schema)
some_unbound schema in_place =
    any_unbound schema.table schema.node.members (λ position member at. stands_there (node_at schema.table member) position (in_place position member at))

-- a word without bits but bit 62 is that of members that are not bound
pub none_bound : (bound : List Bool) → word_of bound % 4611686018427387904 ≡ 0 → word_of bound < 9223372036854775808 → list_any (λ b. b) bound ≡ false
none_bound bound own low = split 62 bound (no_bits (take 62 bound) (sym (own-bits bound) ∙ own)) (none_behind bound low)
  where
    no_bits : (bs : List Bool) → mask_l bs ≡ 0 → list_any (λ b. b) bs ≡ false
    no_bits [] e = refl
    no_bits (true ∷ bs) e = absurd (omega (arith, e))
    no_bits (false ∷ bs) e = no_bits bs (omega (arith, e))

    split : (n : ℕ) (bs : List Bool) → list_any (λ b. b) (take n bs) ≡ false → list_any (λ b. b) (drop n bs) ≡ false → list_any (λ b. b) bs ≡ false
    split zero bs first rest = rest
    split (suc n) [] first rest = refl
    split (suc n) (true ∷ bs) first rest = first
    split (suc n) (false ∷ bs) first rest = split n bs first rest

-- a position whose bit isn't set, or behind those that have one
pub unbound_position : (n : ℕ) (bs : List Bool) (i : ℕ) → get_or (take n bs) i false ≡ false → list_any (λ b. b) (drop n bs) ≡ false → get_or bs i false ≡ false
unbound_position zero [] i own behind = refl
unbound_position zero (true ∷ bs) i own behind = absurd (cc behind)
unbound_position zero (false ∷ bs) zero own behind = refl
unbound_position zero (false ∷ bs) (suc i) own behind = unbound_position zero bs i refl behind
unbound_position (suc n) [] i own behind = refl
unbound_position (suc n) (b ∷ bs) zero own behind = own
unbound_position (suc n) (b ∷ bs) (suc i) own behind = unbound_position n bs i own behind

-- a position whose bit is set is a member's
pub bound_within : (n : ℕ) (bs : List Bool) (i : ℕ) → get_or (take n bs) i false ≡ true → i < length bs
bound_within zero bs i e = absurd (cc e)
bound_within (suc n) [] i e = absurd (cc e)
bound_within (suc n) (b ∷ bs) zero e = omega arith
bound_within (suc n) (b ∷ bs) (suc i) e = let h = bound_within n bs i e in omega (arith, h)

-- the bit of a member's position
pub own-bit : (bound : List Bool) (i : ℕ) → word_of bound % 4611686018427387904 / 2 ^ i % 2 ≡ cond (get_or (take 62 bound) i false) 1 0
own-bit bound i = ap (λ (n : ℕ). n / 2 ^ i % 2) (own-bits bound) ∙ bit_mask_l (take 62 bound) i
