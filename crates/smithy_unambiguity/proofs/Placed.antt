-- What is known of the first write of a member in a typed input.
use Rattle.smithy_unambiguity.proofs.Common.{no_year, option_or, ◌≡◌, refl, sym, ◌∙◌, ap, ℕ, Bool, true, false, not, cond, ◌&&◌, ◌||◌, List, [], filter, slice_get, Option, Some, None, option_map, option_and_then, is_some, IsTrue, AllByRecursion, and_parts, unless, Schema, member_at, members_of, Binding, to_body, binding_of, is_outside_body, is_bound, Value, Write, are_in_range, fits, is_null, Resolved, all_resolved, first, firsts, texts, inserted_at, query_names, IsCheckedInput, has_bound_kind, Fault, writes_fault, bound_fault, value_fault, item_fault, key_fault, pairs_fault, is_placed_at, has_distinct_keys, has_own_formats, is_placed_typed, bound_view, bound_view_at, member_view, last_of, settled, member-passes}
use Rattle.std.proofs.lemmas.List.Sums.{list_all-from_AllPass}
use Rattle.smithy_unambiguity.proofs.ByMember.{at_member, first_value, first_at}
use Rattle.smithy_unambiguity.proofs.Conforming.{no_first, conforming_bound, IsFittingWrite, fitting_writes}
use Rattle.smithy_unambiguity.proofs.Firsts.{first_finds, find_has}
use Rattle.smithy_unambiguity.proofs.Lists.{all_get, all_passing}
use Rattle.smithy_unambiguity.proofs.MemberTexts.{IsBoundValue}

-- What the fields of a typed input say of its writes.
pub record HasTypedWrites (schema : Schema) (ws : List Write) : Type 0 where
  pub conforming : writes_fault schema [] ws ≡ None
  pub in_range : are_in_range ws ≡ true
  pub bound : AllByRecursion (λ r. IsTrue (is_placed_typed r)) (firsts schema ws)

-- the value of a placed member's first write
pub record IsPlacedValue (m : Schema) (v : Value) : Type 0 where
  pub value : IsBoundValue m v
  pub keys : has_distinct_keys v ≡ true
  pub paired : key_fault m v ≡ None
  pub ts : List (List ℕ)
  pub texts : texts m v ≡ Some ts
  pub headers : pairs_fault m (inserted_at (binding_of m) m v) ≡ None

-- a member that is placed is bound
pub placed_bound : (b : Binding) → is_placed_at b ≡ true → is_outside_body b ≡ true
placed_bound to_body e = absurd (cc e)
placed_bound _ e = refl

pub bound_fits : (a n b : Bool) → b ≡ true → (a || (n && not b)) ≡ true → a ≡ true
bound_fits true n b is e = refl
bound_fits false true true is e = absurd (cc e)
bound_fits false true false is e = absurd (cc is)
bound_fits false false b is e = absurd (cc e)

texts_there : (m : Schema) (v : Value) (o : Option (List (List ℕ))) (f : Fault) → unless (is_some o) f ≡ None → (ts : List (List ℕ)) × (o ≡ Some ts)
texts_there m v None f e = absurd (cc e)
texts_there m v (Some ts) f e = (ts, refl)

-- the first write to a position, with its member
pub first_found : (schema : Schema) (ws : List Write) (i : ℕ) (m : Schema) (v : Value) → member_at schema i ≡ Some m → first_value schema ws i ≡ Some v → first schema ws i ≡ Some (at_member i m v)
first_found schema ws i m v at e = first_at schema ws i m at ∙ ap (option_map (at_member i m)) e

-- what holds of each first write holds of it
pub first_has : (P : Resolved → Type 0) (schema : Schema) (ws : List Write) (i : ℕ) (m : Schema) (v : Value) → member_at schema i ≡ Some m → first_value schema ws i ≡ Some v → AllByRecursion P (firsts schema ws) → P (at_member i m v)
first_has P schema ws i m v at e all =
    (find_has P i (firsts schema ws) (at_member i m v) all (first_finds i (all_resolved schema ws) ∙ first_found schema ws i m v at e)).0

-- it fits, and is in range
pub fitting_first : (schema : Schema) (ws : List Write) (i : ℕ) (m : Schema) (v : Value) → AllByRecursion IsFittingWrite (all_resolved schema ws) → member_at schema i ≡ Some m → first_value schema ws i ≡ Some v → IsFittingWrite (at_member i m v)
fitting_first schema ws i m v fitting at e = (find_has IsFittingWrite i (all_resolved schema ws) (at_member i m v) fitting (first_found schema ws i m v at e)).0

pub first_fitting : (schema : Schema) (ws : List Write) (i : ℕ) (m : Schema) (v : Value) → writes_fault schema [] ws ≡ None → are_in_range ws ≡ true → member_at schema i ≡ Some m → first_value schema ws i ≡ Some v → IsFittingWrite (at_member i m v)
first_fitting schema ws i m v conforming range at e = fitting_first schema ws i m v (fitting_writes schema ws conforming range) at e

-- so it is placed, where it has no fault, each key once and the formats of its schema
pub placed_of : (i : ℕ) (m : Schema) (v : Value) → IsFittingWrite (at_member i m v) → is_placed_at (binding_of m) ≡ true → bound_fault (at_member i m v) ≡ None
    → (fits m.node.kind v ≡ true → has_distinct_keys v ≡ true) → has_own_formats m v ≡ true → IsPlacedValue m v
placed_of i m v fitting placed fault keys formats =
    let fit = bound_fits (fits m.node.kind v) (is_null v) (is_bound m) (placed_bound (binding_of m) placed) fitting.fits in
    let a = no_first (value_fault m v) (pairs_fault m (inserted_at (binding_of m) m v)) fault in
    let b = no_first (item_fault m v) (option_or (key_fault m v) (unless (is_some (texts m v)) no_year)) a.0 in
    let c = no_first (key_fault m v) (unless (is_some (texts m v)) no_year) b.1 in
    let x = texts_there m v (texts m v) _ c.1 in
    record {
      value = record { fits = fit; in_range = fitting.in_range; items = b.0; formats = formats };
      keys = keys fit;
      paired = c.0;
      ts = x.0;
      texts = x.1;
      headers = a.1;
    }

pub placed_value : (schema : Schema) (ws : List Write) (i : ℕ) (m : Schema) (v : Value) → HasTypedWrites schema ws → member_at schema i ≡ Some m → is_placed_at (binding_of m) ≡ true → first_value schema ws i ≡ Some v → IsPlacedValue m v
placed_value schema ws i m v typed at placed e =
    let tests : (not (is_placed_at (binding_of m)) || (has_distinct_keys v && has_own_formats m v)) ≡ true = first_has (λ r. IsTrue (is_placed_typed r)) schema ws i m v at e typed.bound in
    let both = and_parts (has_distinct_keys v) (has_own_formats m v) (ap (λ b. not b || (has_distinct_keys v && has_own_formats m v)) (sym placed) ∙ tests) in
    placed_of i m v (first_fitting schema ws i m v typed.conforming typed.in_range at e) placed
    (conforming_bound schema ws typed.conforming i (at_member i m v) (first_found schema ws i m v at e) placed) (λ fit. both.0) both.1

-- the normal form's part of a bound member
pub bound_view_of : (schema : Schema) (ws : List Write) (i : ℕ) (m : Schema) (b : Binding) → member_at schema i ≡ Some m → binding_of m ≡ b → is_outside_body b ≡ true
    → member_view schema ws i m ≡ option_and_then (bound_view_at b (query_names schema) m) (first_value schema ws i)
bound_view_of schema ws i m b at is bound =
    ap (λ (t : Bool). cond t (option_and_then (bound_view schema) (first schema ws i)) (option_map (λ (r : Resolved). settled (Some m) r.value) (last_of i (all_resolved schema ws)))) (ap is_outside_body is ∙ bound)
    ∙ ap (option_and_then (bound_view schema)) (first_at schema ws i m at) ∙ go (first_value schema ws i) ∙ ap (λ c. option_and_then (bound_view_at c (query_names schema) m) (first_value schema ws i)) is
  where
    go : (o : Option Value) → option_and_then (bound_view schema) (option_map (at_member i m) o) ≡ option_and_then (bound_view_at (binding_of m) (query_names schema) m) o
    go None = refl
    go (Some v) = refl

pub member_among : (P : Schema → Type 0) (test : Schema → Bool) (ms : List Schema) (i : ℕ) (m : Schema) → AllByRecursion P (filter test ms) → slice_get ms i ≡ Some m → test m ≡ true → P m
member_among P test ms i m all e pass = all_get (λ m. test m ≡ true → P m) ms i m (all_passing P test ms all) e pass

-- a member's kind may stand at its binding
pub kinds_at : (schema : Schema) → IsCheckedInput schema → (i : ℕ) (m : Schema) → member_at schema i ≡ Some m → has_bound_kind m ≡ true
kinds_at schema checked i m at = member-passes has_bound_kind schema i m (list_all-from_AllPass has_bound_kind (members_of schema) checked.kinds) at
