-- The writes of a normal form: one to each member of which it has something.
use Rattle.smithy_unambiguity.proofs.Common.{◌≡◌, refl, ◌∙◌, ap, ℕ, zero, suc, ◌+◌, ◌<◌, arith, true, false, ◌==◌, List, [], ◌∷◌, filter_map, slice_get, Option, Some, None, option_map, option_and_then, is_some, eq-eqb, ne_eqb, enumerate_from, cons_option, Schema, member_at, members_of, Value, Write, label_of, Resolved, resolved, all_resolved, first, position_in, then_some, is_of, IsCheckedInput, is_well_made, view, member_view, AllByRecursion, filter, option_to_list, last_of, last_or}
use Rattle.smithy_unambiguity.proofs.ByMember.{at_member, first_value}
use Rattle.smithy_unambiguity.proofs.Members.{member_in_place}
use Rattle.smithy_unambiguity.proofs.Positions.{members_by_position, members_placed}
use Rattle.smithy_unambiguity.proofs.ViewTold.{own_write}
use Rattle.smithy_unambiguity.proofs.Lists.{found_alone}

-- the same write with its member
abbrev pub own_resolved : Schema → List Write → ℕ × Schema → Option Resolved
own_resolved schema ws p = option_map (at_member p.0 p.1) (member_view schema ws p.0 p.1)

-- a write of the normal form is to its member
pub own_is_resolved : (schema : Schema) (i : ℕ) (m : Schema) (u : Value) → is_well_made schema ≡ true → member_at schema i ≡ Some m → resolved schema (record { label = label_of m; value = u }) ≡ Some (at_member i m u)
own_is_resolved schema i m u well_made at =
    let member = member_in_place schema i m well_made at in
    ap (λ (o : Option ℕ). option_and_then (λ (j : ℕ). option_map (λ n. record { position = j; member = n; value = u }) (member_at schema j)) (position_in schema o m.node.member_name)) member.index
    ∙ ap (λ (o : Option Schema). option_and_then (λ (j : ℕ). option_map (λ n. record { position = j; member = n; value = u }) (member_at schema j)) (then_some (is_some o) i)) at
    ∙ ap (option_map (λ n. record { position = i; member = n; value = u })) at

resolved_own : (schema : Schema) (ws : List Write) (ps : List (ℕ × Schema)) → is_well_made schema ≡ true → AllByRecursion (λ p. member_at schema p.0 ≡ Some p.1) ps
    → all_resolved schema (filter_map (own_write schema ws) ps) ≡ filter_map (own_resolved schema ws) ps
resolved_own schema ws [] well_made all = refl
resolved_own schema ws (p ∷ ps) well_made all = go (member_view schema ws p.0 p.1) (resolved_own schema ws ps well_made all.1)
  where
    go : (o : Option Value) → all_resolved schema (filter_map (own_write schema ws) ps) ≡ filter_map (own_resolved schema ws) ps
        → all_resolved schema (cons_option (option_map (λ u. record { label = label_of p.1; value = u }) o) (filter_map (own_write schema ws) ps))
        ≡ cons_option (option_map (at_member p.0 p.1) o) (filter_map (own_resolved schema ws) ps)
    go None rest = rest
    go (Some u) rest = λ i. cons_option (own_is_resolved schema p.0 p.1 u well_made all.0 i) (rest i)

pub resolved_view : (schema : Schema) (ws : List Write) → IsCheckedInput schema → is_well_made schema ≡ true → all_resolved schema (view schema ws) ≡ filter_map (own_resolved schema ws) (enumerate_from 0 (members_of schema))
unfolding view
resolved_view schema ws checked well_made = resolved_own schema ws (enumerate_from 0 (members_of schema)) well_made (members_placed schema checked)

-- no write stands at an earlier position
none_before : (schema : Schema) (ws : List Write) (i k : ℕ) (ms : List Schema) → i < k → filter (is_of i) (filter_map (own_resolved schema ws) (enumerate_from k ms)) ≡ []
none_before schema ws i k [] less = refl
none_before schema ws i k (m ∷ ms) less = go (member_view schema ws k m) (none_before schema ws i (k + 1) ms (omega (arith, less)))
  where
    go : (o : Option Value) → filter (is_of i) (filter_map (own_resolved schema ws) (enumerate_from (k + 1) ms)) ≡ []
        → filter (is_of i) (cons_option (option_map (at_member k m) o) (filter_map (own_resolved schema ws) (enumerate_from (k + 1) ms))) ≡ []
    go None rest = rest
    go (Some u) rest = let other : (k == i) ≡ false = ne_eqb k i (λ e. omega (arith, e, less)) in rw other rest

one_at : (schema : Schema) (ws : List Write) (i k j : ℕ) (ms : List Schema) (m : Schema) → slice_get ms j ≡ Some m → k + j ≡ i
    → filter (is_of i) (filter_map (own_resolved schema ws) (enumerate_from k ms)) ≡ option_to_list (own_resolved schema ws (i, m))
one_at schema ws i k j [] m at is = absurd (cc at)
one_at schema ws i k zero (x ∷ ms) m at is =
    let same : x ≡ m = cc at in
    let here : k ≡ i = omega (arith, is) in
    go (member_view schema ws k x) here (none_before schema ws i (k + 1) ms (omega (arith, is))) ∙ (λ l. option_to_list (own_resolved schema ws (here l, same l)))
  where
    go : (o : Option Value) → k ≡ i → filter (is_of i) (filter_map (own_resolved schema ws) (enumerate_from (k + 1) ms)) ≡ []
        → filter (is_of i) (cons_option (option_map (at_member k x) o) (filter_map (own_resolved schema ws) (enumerate_from (k + 1) ms))) ≡ option_to_list (option_map (at_member k x) o)
    go None here rest = rest
    go (Some u) here rest = let found : (k == i) ≡ true = eq-eqb k i here in rw found (ap (λ rs. at_member k x u ∷ rs) rest)
one_at schema ws i k (suc j) (x ∷ ms) m at is = go (member_view schema ws k x) (one_at schema ws i (k + 1) j ms m at (omega (arith, is)))
  where
    go : (o : Option Value) → filter (is_of i) (filter_map (own_resolved schema ws) (enumerate_from (k + 1) ms)) ≡ option_to_list (own_resolved schema ws (i, m))
        → filter (is_of i) (cons_option (option_map (at_member k x) o) (filter_map (own_resolved schema ws) (enumerate_from (k + 1) ms))) ≡ option_to_list (own_resolved schema ws (i, m))
    go None rest = rest
    go (Some u) rest = let other : (k == i) ≡ false = ne_eqb k i (λ q. omega (arith, q, is)) in rw other rest

-- the one write to each position is that of its member's part
alone_in_view : (schema : Schema) (ws : List Write) (i : ℕ) (m : Schema) → IsCheckedInput schema → is_well_made schema ≡ true → member_at schema i ≡ Some m
    → filter (is_of i) (all_resolved schema (view schema ws)) ≡ option_to_list (option_map (at_member i m) (member_view schema ws i m))
alone_in_view schema ws i m checked well_made at =
    ap (filter (is_of i)) (resolved_view schema ws checked well_made) ∙ one_at schema ws i 0 i (members_of schema) m (members_by_position schema checked.cited i ∙ at) (omega arith)

-- so it is the first
pub first_of_view : (schema : Schema) (ws : List Write) (i : ℕ) (m : Schema) → IsCheckedInput schema → is_well_made schema ≡ true → member_at schema i ≡ Some m
    → first schema (view schema ws) i ≡ option_map (at_member i m) (member_view schema ws i m)
first_of_view schema ws i m checked well_made at =
    found_alone (is_of i) (all_resolved schema (view schema ws)) (option_map (at_member i m) (member_view schema ws i m)) (alone_in_view schema ws i m checked well_made at)

-- and the last
pub last_of_view : (schema : Schema) (ws : List Write) (i : ℕ) (m : Schema) → IsCheckedInput schema → is_well_made schema ≡ true → member_at schema i ≡ Some m
    → last_of i (all_resolved schema (view schema ws)) ≡ option_map (at_member i m) (member_view schema ws i m)
last_of_view schema ws i m checked well_made at = ap (last_or None) (alone_in_view schema ws i m checked well_made at) ∙ go (option_map (at_member i m) (member_view schema ws i m))
  where
    go : (o : Option Resolved) → last_or None (option_to_list o) ≡ o
    go None = refl
    go (Some r) = refl

pub first_value_of_view : (schema : Schema) (ws : List Write) (i : ℕ) (m : Schema) → IsCheckedInput schema → is_well_made schema ≡ true → member_at schema i ≡ Some m
    → first_value schema (view schema ws) i ≡ member_view schema ws i m
first_value_of_view schema ws i m checked well_made at = ap (option_map (λ (r : Resolved). r.value)) (first_of_view schema ws i m checked well_made at) ∙ go (member_view schema ws i m)
  where
    go : (o : Option Value) → option_map (λ (r : Resolved). r.value) (option_map (at_member i m) o) ≡ o
    go None = refl
    go (Some u) = refl
