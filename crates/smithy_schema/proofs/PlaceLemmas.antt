-- One step along the places that a node cites.
use Rattle.std.proofs.Common.{◌≡◌, refl, sym, ap, ◌∙◌, ℕ, zero, suc, ◌+◌, ◌<◌, ◌≤◌, nat_lt, Bool, true, false, ◌&&◌, List, [], ◌∷◌, length, get_or, drop, arith, Option, Some, None}
use Rattle.std.specs.List.{list_all}
use Rattle.std.specs.Option.{option_or, is_some}
use Rattle.std.proofs.lemmas.Bool.{lt-ltb, le-ltb}
use Rattle.smithy_schema.specs.declared.parts.SchemaIndex.{SchemaIndex}
use Rattle.smithy_schema.specs.declared.error.SchemaError.{SchemaError}
use Rattle.smithy_schema.specs.views.Places.{places_of}
use Rattle.smithy_schema.specs.Nodes.{Table}
use Rattle.smithy_schema.specs.Defining.{member_fault, members_fault}

-- the place that stands at a position
abbrev pub place_at : List SchemaIndex → ℕ → ℕ
place_at xs i = (get_or xs i (record { 0 = 0 })).0

pub places_step : (xs : List SchemaIndex) (i : ℕ) → i < length xs → drop i (places_of xs) ≡ place_at xs i ∷ drop (i + 1) (places_of xs)
places_step [] i h = absurd (omega arith)
places_step (x ∷ xs) zero h = refl
places_step (x ∷ xs) (suc i) h =
    let next : suc i + 1 ≡ suc (i + 1) = omega arith in
    let within : i < length xs = omega arith in
    rw next (places_step xs i within)

pub below_step : (n : ℕ) (xs : List SchemaIndex) (i : ℕ) → i < length xs → place_at xs i < n → list_all (λ p. nat_lt p n) (drop i (places_of xs)) ≡ list_all (λ p. nat_lt p n) (drop (i + 1) (places_of xs))
below_step n xs i h below =
    ap (list_all (λ p. nat_lt p n)) (places_step xs i h) ∙ ap (λ (b : Bool). b && list_all (λ p. nat_lt p n) (drop (i + 1) (places_of xs))) (lt-ltb (place_at xs i) n below)

pub above_step : (n : ℕ) (xs : List SchemaIndex) (i : ℕ) → i < length xs → n ≤ place_at xs i → list_all (λ p. nat_lt p n) (drop i (places_of xs)) ≡ false
above_step n xs i h above =
    ap (list_all (λ p. nat_lt p n)) (places_step xs i h) ∙ ap (λ (b : Bool). b && list_all (λ p. nat_lt p n) (drop (i + 1) (places_of xs))) (le-ltb (place_at xs i) n above)

fault_step : (table : Table) (xs : List SchemaIndex) (i : ℕ) (f : Option SchemaError) → i < length xs → f ≡ member_fault table i (place_at xs i) → members_fault table i (drop i (places_of xs)) ≡ option_or f (members_fault table (i + 1) (drop (i + 1) (places_of xs)))
fault_step table xs i f h is = ap (members_fault table i) (places_step xs i h) ∙ ap (λ (o : Option SchemaError). option_or o (members_fault table (i + 1) (drop (i + 1) (places_of xs)))) (sym is)

-- the first fault is this member's
pub fault_here : (table : Table) (xs : List SchemaIndex) (i : ℕ) (f : Option SchemaError) → i < length xs → f ≡ member_fault table i (place_at xs i) → is_some f ≡ true → members_fault table i (drop i (places_of xs)) ≡ f
fault_here table xs i f h is some = fault_step table xs i f h is ∙ go f (members_fault table (i + 1) (drop (i + 1) (places_of xs))) some
  where
    go : (o rest : Option SchemaError) → is_some o ≡ true → option_or o rest ≡ o
    go None rest e = absurd (cc e)
    go (Some f) rest e = refl

-- this member has no fault
pub fault_later : (table : Table) (xs : List SchemaIndex) (i : ℕ) (f : Option SchemaError) → i < length xs → f ≡ member_fault table i (place_at xs i) → is_some f ≡ false → members_fault table i (drop i (places_of xs)) ≡ members_fault table (i + 1) (drop (i + 1) (places_of xs))
fault_later table xs i f h is none = fault_step table xs i f h is ∙ go f (members_fault table (i + 1) (drop (i + 1) (places_of xs))) none
  where
    go : (o rest : Option SchemaError) → is_some o ≡ false → option_or o rest ≡ rest
    go None rest e = refl
    go (Some f) rest e = absurd (cc e)
