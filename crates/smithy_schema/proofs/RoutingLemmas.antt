-- The routing word: what the members at places of a table give for it, one by one.
use Rattle.std.proofs.Common.{◌≡◌, refl, sym, ap, ◌∙◌, ℕ, zero, suc, ◌+◌, ◌-◌, ◌*◌, ◌^◌, ◌<◌, ◌≤◌, min, arith, Bool, true, false, ◌||◌, cond, List, [], ◌∷◌, length, map, drop, take, get_or, if◌then◌else◌, option_map, Option, Some, None, length-drop}
use Rattle.std.specs.List.{list_any, slice_get}
use Rattle.std.specs.Option.{option_map_or}
use Rattle.std.specs.Simd.Lanes.{mask_l}
use Rattle.std.proofs.lemmas.Simd.{mask_l-lt}
use Rattle.std.proofs.Math.Bool.{beq}
use Rattle.std.proofs.Math.Nat.{pow-le-pow_right}
use Rattle.std.proofs.lemmas.List.{length-take, take_min, take-map, drop-map}
use Rattle.smithy_schema.specs.declared.parts.SchemaIndex.{SchemaIndex}
use Rattle.smithy_schema.specs.Nodes.{Node, Table, node_at, is_response_bound}
use Rattle.smithy_schema.specs.Routing.{is_bound_at, bound_among, word_of}
use Rattle.smithy_schema.specs.views.Places.{places_of}
use Rattle.smithy_schema.specs.views.Routed.{is_as}
use Rattle.smithy_schema.proofs.PlaceLemmas.{place_at}

-- a place is bound as the node there is
bound_as_held : (old new : Table) (place : ℕ) → node_at new place ≡ node_at old place → is_bound_at old place ≡ is_bound_at new place
bound_as_held old new place same = go (node_at old place) ∙ ap (λ (o : Option Node). option_map_or is_response_bound (option_map (λ n. record { table = new; node = n }) o) false) (sym same)
  where
    go : (o : Option Node) → option_map_or is_response_bound (option_map (λ n. record { table = old; node = n }) o) false ≡ option_map_or is_response_bound (option_map (λ n. record { table = new; node = n }) o) false
    go None = refl
    go (Some n) = refl

-- the members of a node stay bound where the table keeps what stands at their places
pub bound_among-same : (old new : Table) (places : List ℕ) → ((position member : ℕ) → slice_get places position ≡ Some member → node_at new member ≡ node_at old member) → bound_among old places ≡ bound_among new places
bound_among-same old new [] same = refl
bound_among-same old new (place ∷ places) same =
    λ i. bound_as_held old new place (same 0 place refl) i ∷ bound_among-same old new places (λ position member at. same (suc position) member at) i

-- the members from a position on
pub bound_step : (table : Table) (xs : List SchemaIndex) (i : ℕ) → i < length xs → drop i (bound_among table (places_of xs)) ≡ is_bound_at table (place_at xs i) ∷ drop (i + 1) (bound_among table (places_of xs))
bound_step table [] i h = absurd (omega arith)
bound_step table (x ∷ xs) zero h = refl
bound_step table (x ∷ xs) (suc i) h =
    let next : suc i + 1 ≡ suc (i + 1) = omega arith in
    let within : i < length xs = omega arith in
    rw next (bound_step table xs i within)

-- the bits of the members from a position on, by those behind it
pub bits_step : (table : Table) (xs : List SchemaIndex) (i bit : ℕ) (b : Bool) (d : SchemaIndex) → 0 < i → i ≤ length xs → b ≡ is_bound_at table (get_or xs (i - 1) d).0 → bit ≡ (if b then 1 else 0)
    → 2 * mask_l (drop i (bound_among table (places_of xs))) + bit ≡ mask_l (drop (i - 1) (bound_among table (places_of xs)))
bits_step table xs i bit b d some within is set =
    let bound = bound_among table (places_of xs) in
    let below : i - 1 < length xs = omega (arith, some, within) in
    let next : i - 1 + 1 ≡ i = omega (arith, some) in
    let same : get_or xs (i - 1) d ≡ get_or xs (i - 1) (record { 0 = 0 }) = get_or-any xs (i - 1) d (record { 0 = 0 }) below in
    let stands : b ≡ is_bound_at table (place_at xs (i - 1)) = is ∙ ap (λ (s : SchemaIndex). is_bound_at table s.0) same in
    let here : drop (i - 1) bound ≡ is_bound_at table (place_at xs (i - 1)) ∷ drop i bound =
    bound_step table xs (i - 1) below ∙ ap (λ (k : ℕ). is_bound_at table (place_at xs (i - 1)) ∷ drop k bound) next in
    ap (λ (n : ℕ). 2 * mask_l (drop i bound) + n) set ∙ go b (mask_l (drop i bound)) ∙ ap (λ (c : Bool). cond c 1 0 + 2 * mask_l (drop i bound)) stands ∙ sym (ap mask_l here)
  where
    get_or-any : (ys : List SchemaIndex) (k : ℕ) (a b : SchemaIndex) → k < length ys → get_or ys k a ≡ get_or ys k b
    get_or-any [] k a b h = absurd (omega arith)
    get_or-any (y ∷ ys) zero a b h = refl
    get_or-any (y ∷ ys) (suc k) a b h = get_or-any ys k a b (omega arith)

    go : (c : Bool) (m : ℕ) → 2 * m + (if c then 1 else 0) ≡ cond c 1 0 + 2 * m
    go true m = omega arith
    go false m = omega arith

-- so many bits
pub bits-below : (k : ℕ) (bs : List Bool) → length bs ≤ k → mask_l bs < 2 ^ k
bits-below k bs few = let own = mask_l-lt bs in let more = pow-le-pow_right {n = 2} (omega arith) few in omega (arith, own, more)

length-bound : (table : Table) (xs : List SchemaIndex) → length (bound_among table (places_of xs)) ≡ length xs
length-bound table [] = refl
length-bound table (x ∷ xs) = ap suc (length-bound table xs)

pub bits-few : (table : Table) (xs : List SchemaIndex) (i : ℕ) → length xs ≤ 62 → mask_l (drop i (bound_among table (places_of xs))) < 4611686018427387904
bits-few table xs i few =
    let n : length (drop i (bound_among table (places_of xs))) ≡ length (bound_among table (places_of xs)) - i = length-drop i (bound_among table (places_of xs)) in
    let m = length-bound table xs in
    bits-below 62 (drop i (bound_among table (places_of xs))) (omega (arith, n, m, few))

-- some member from a position on is as it is asked for, or one later
pub some_here : (table : Table) (xs : List SchemaIndex) (i : ℕ) (wanted b : Bool) → i < length xs → b ≡ is_bound_at table (place_at xs i) → beq b wanted ≡ true → list_any (is_as wanted) (drop i (bound_among table (places_of xs))) ≡ true
some_here table xs i wanted b h is same =
    ap (list_any (is_as wanted)) (bound_step table xs i h) ∙ ap (λ (c : Bool). is_as wanted c || list_any (is_as wanted) (drop (i + 1) (bound_among table (places_of xs)))) (sym is) ∙ go wanted b same _
  where
    go : (w b : Bool) → beq b w ≡ true → (rest : Bool) → (is_as w b || rest) ≡ true
    go true true same rest = refl
    go true false same rest = absurd (cc same)
    go false true same rest = absurd (cc same)
    go false false same rest = refl

pub some_later : (table : Table) (xs : List SchemaIndex) (i : ℕ) (wanted b : Bool) → i < length xs → b ≡ is_bound_at table (place_at xs i) → beq b wanted ≡ false
    → list_any (is_as wanted) (drop i (bound_among table (places_of xs))) ≡ list_any (is_as wanted) (drop (i + 1) (bound_among table (places_of xs)))
some_later table xs i wanted b h is other =
    ap (list_any (is_as wanted)) (bound_step table xs i h) ∙ ap (λ (c : Bool). is_as wanted c || list_any (is_as wanted) (drop (i + 1) (bound_among table (places_of xs)))) (sym is) ∙ go wanted b other _
  where
    go : (w b : Bool) → beq b w ≡ false → (rest : Bool) → (is_as w b || rest) ≡ rest
    go true true other rest = absurd (cc other)
    go true false other rest = refl
    go false true other rest = refl
    go false false other rest = absurd (cc other)

drop_min : {X : Type 0} (k : ℕ) (xs : List X) → drop (min (length xs) k) xs ≡ drop k xs
drop_min zero [] = refl
drop_min (suc k) [] = let n : min 0 (suc k) ≡ 0 = omega arith in rw n refl
drop_min zero (x ∷ xs) = let n : min (suc (length xs)) 0 ≡ 0 = omega arith in rw n refl
drop_min (suc k) (x ∷ xs) = let n : min (suc (length xs)) (suc k) ≡ suc (min (length xs) k) = omega arith in rw n (drop_min k xs)

-- the members with a bit of their own, and the others
pub own_members : (table : Table) (xs : List SchemaIndex) (n : ℕ) → n ≡ min (length xs) 62 → bound_among table (places_of (take n xs)) ≡ take 62 (bound_among table (places_of xs))
own_members table xs n is =
    let same : n ≡ min 62 (length xs) = omega (arith, is) in
    rw same (ap (λ (ys : List SchemaIndex). bound_among table (places_of ys)) (take_min 62 xs)
    ∙ sym (take-map (is_bound_at table) 62 (places_of xs) ∙ ap (map (is_bound_at table)) (take-map (λ (i : SchemaIndex). i.0) 62 xs)))

pub other_members : (table : Table) (xs : List SchemaIndex) (n : ℕ) → n ≡ min (length xs) 62 → bound_among table (places_of (drop n xs)) ≡ drop 62 (bound_among table (places_of xs))
other_members table xs n is =
    rw is (ap (λ (ys : List SchemaIndex). bound_among table (places_of ys)) (drop_min 62 xs)
    ∙ sym (drop-map (is_bound_at table) 62 (places_of xs) ∙ ap (map (is_bound_at table)) (drop-map (λ (i : SchemaIndex). i.0) 62 xs)))

-- the parts of the word
pub word_from : (table : Table) (xs : List SchemaIndex) (n bits in_body behind : ℕ) (some other : Bool) → n ≡ min (length xs) 62
    → bits ≡ mask_l (bound_among table (places_of (take n xs))) → some ≡ list_any (is_as false) (bound_among table (places_of xs)) → other ≡ list_any (is_as true) (bound_among table (places_of (drop n xs)))
    → in_body ≡ (if some then 4611686018427387904 else 0) → behind ≡ (if other then 9223372036854775808 else 0) → bits + in_body + behind ≡ word_of (bound_among table (places_of xs))
word_from table xs n bits in_body behind some other is low has_some has_other a b =
    rw (low, a, b, has_some, has_other, own_members table xs n is, other_members table xs n is) refl

-- it is a number of 64 bits
pub word_fits : (table : Table) (xs : List SchemaIndex) (n bits in_body behind : ℕ) (some other : Bool) → n ≡ min (length xs) 62 → bits ≡ mask_l (bound_among table (places_of (take n xs)))
    → in_body ≡ (if some then 4611686018427387904 else 0) → behind ≡ (if other then 9223372036854775808 else 0) → bits + in_body + behind < 18446744073709551616
word_fits table xs n bits in_body behind some other is low a b = go some other (few low) a b
  where
    few : bits ≡ mask_l (bound_among table (places_of (take n xs))) → bits < 4611686018427387904
    few low =
        let k = length-bound table (take n xs) in
        let short = length-take n xs in
        let below = bits-below 62 (bound_among table (places_of (take n xs))) (omega (arith, k, short, is)) in
        rw low below

    go : (s o : Bool) → bits < 4611686018427387904 → in_body ≡ (if s then 4611686018427387904 else 0) → behind ≡ (if o then 9223372036854775808 else 0) → bits + in_body + behind < 18446744073709551616
    go true true h a b = omega (arith, h, a, b)
    go true false h a b = omega (arith, h, a, b)
    go false true h a b = omega (arith, h, a, b)
    go false false h a b = omega (arith, h, a, b)
