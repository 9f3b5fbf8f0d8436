-- The members of a schema, a member at a time.
use Rattle.smithy_binding.proofs.Common.{◌≡◌, refl, ap, sym, ◌∙◌, ℕ, ◌+◌, zero, suc, arith, Bool, false, List, [], ◌∷◌, drop, filter_map, slice_get, Option, Some, None, is_some, option_and_then, list_all, cons_option, Schema, at_place, member_at}
use Rattle.smithy_binding.proofs.WriteSteps.{drop-some}

abbrev pub members_from : Schema → ℕ → List Schema
members_from schema i = filter_map (at_place schema.table) (drop i schema.node.members)

-- the one at the position, if there is one, and those behind it
pub members_from-more : (schema : Schema) (i : ℕ) → members_from schema i ≡ cons_option (member_at schema i) (members_from schema (i + 1))
members_from-more schema i = go schema.node.members i
  where
    go : (ps : List ℕ) (i : ℕ)
        → filter_map (at_place schema.table) (drop i ps) ≡ cons_option (option_and_then (at_place schema.table) (slice_get ps i)) (filter_map (at_place schema.table) (drop (i + 1) ps))
    go [] zero = refl
    go [] (suc i) = let next : suc i + 1 ≡ suc (i + 1) = omega arith in rw next refl
    go (p ∷ ps) zero = refl
    go (p ∷ ps) (suc i) = let next : suc i + 1 ≡ suc (i + 1) = omega arith in rw next (go ps i)

abbrev pub are_defined_from : Schema → ℕ → Bool
are_defined_from schema i = list_all (λ p. is_some (at_place schema.table p)) (drop i schema.node.members)

-- a member that stands at the position
pub member-here : (schema : Schema) (i : ℕ) (m : Schema) → member_at schema i ≡ Some m
    → (members_from schema i ≡ m ∷ members_from schema (i + 1)) × (are_defined_from schema i ≡ are_defined_from schema (i + 1))
member-here schema i m at = go (slice_get schema.node.members i) refl at
  where
    go : (o : Option ℕ) → slice_get schema.node.members i ≡ o → option_and_then (at_place schema.table) o ≡ Some m
        → (members_from schema i ≡ m ∷ members_from schema (i + 1)) × (are_defined_from schema i ≡ are_defined_from schema (i + 1))
    go None e given = absurd (cc given)
    go (Some p) e given = (rw (drop-some schema.node.members i p e, given) refl, rw (drop-some schema.node.members i p e, given) refl)

-- a hole
pub member-hole : (schema : Schema) (i p : ℕ) → slice_get schema.node.members i ≡ Some p → member_at schema i ≡ None → are_defined_from schema i ≡ false
member-hole schema i p e at =
    let hole : at_place schema.table p ≡ None = sym (ap (option_and_then (at_place schema.table)) e) ∙ at in
    rw (drop-some schema.node.members i p e, hole) refl
