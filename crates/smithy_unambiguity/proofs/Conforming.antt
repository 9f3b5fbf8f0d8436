-- What no fault says of the writes.
use Rattle.smithy_unambiguity.proofs.Common.{◌≡◌, refl, sym, ◌∙◌, ap, subst, ℕ, Bool, true, false, not, cond, ◌&&◌, ◌||◌, ◌==◌, List, [], ◌∷◌, ◌++◌, Option, Some, None, option_to_list, find, AllByRecursion, cons_option, option_map_or, option_or, and_parts, unless, Schema, member_at, binding_of, Write, is_in_range, are_in_range, fits_member, Resolved, resolve, resolved, all_resolved, is_of, first, has_seen, Fault, writes_fault, writes_fault_by, resolved_fault_by, bound_fault, no_member, wrong_kind, is_placed_at, resolve-resolved, seen_next}
use Rattle.smithy_unambiguity.proofs.Firsts.{seen_same}

pub no_first : {A : Type 0} (o p : Option A) → option_or o p ≡ None → (o ≡ None) × (p ≡ None)
no_first None p e = (refl, e)
no_first (Some x) p e = absurd (cc e)

-- each resolved write has the member at its position
pub resolved_at : (schema : Schema) (ws : List Write) → AllByRecursion (λ r. member_at schema r.position ≡ Some r.member) (all_resolved schema ws)
resolved_at schema [] = tt
resolved_at schema (w ∷ ws) = go (resolved schema w) refl (resolved_at schema ws)
  where
    go : (o : Option Resolved) → resolved schema w ≡ o → AllByRecursion (λ r. member_at schema r.position ≡ Some r.member) (all_resolved schema ws)
        → AllByRecursion (λ r. member_at schema r.position ≡ Some r.member) (cons_option o (all_resolved schema ws))
    go None is rest = rest
    go (Some r) is rest = ((resolve-resolved schema w r is).1, rest)

-- the faults of a write that resolves, and of those behind it
record HasNoFault (f : Resolved → Option Fault) (schema : Schema) (seen : List ℕ) (r : Resolved) (ws : List Write) : Type 0 where
  own : resolved_fault_by f seen r ≡ None
  later : writes_fault_by f schema (seen ++ r.position ∷ []) ws ≡ None

no_fault : (f : Resolved → Option Fault) (schema : Schema) (seen : List ℕ) (w : Write) (ws : List Write) (r : Resolved) → writes_fault_by f schema seen (w ∷ ws) ≡ None → resolved schema w ≡ Some r → HasNoFault f schema seen r ws
no_fault f schema seen w ws r e is =
    let parts = no_first (option_map_or (resolved_fault_by f seen) (resolved schema w) (Some (no_member w.label))) (writes_fault_by f schema (seen ++ option_to_list (resolve schema w.label)) ws) e in
    record {
      own = ap (λ o. option_map_or (resolved_fault_by f seen) o (Some (no_member w.label))) (sym is) ∙ parts.0;
      later = ap (λ o. writes_fault_by f schema (seen ++ option_to_list o) ws) (sym (resolve-resolved schema w r is).0) ∙ parts.1;
    }

-- a write that resolves to no member is a fault
resolves : (f : Resolved → Option Fault) (schema : Schema) (seen : List ℕ) (w : Write) (ws : List Write) → writes_fault_by f schema seen (w ∷ ws) ≡ None → resolved schema w ≡ None → ⊥
resolves f schema seen w ws e is =
    let q = ap (λ o. option_map_or (resolved_fault_by f seen) o (Some (no_member w.label))) (sym is) ∙ (no_first (option_map_or (resolved_fault_by f seen) (resolved schema w) (Some (no_member w.label))) (writes_fault_by f schema (seen ++ option_to_list (resolve schema w.label)) ws) e).0 in
    absurd (cc q)

bound_first : (f : Resolved → Option Fault) (schema : Schema) (seen : List ℕ) (ws : List Write) → writes_fault_by f schema seen ws ≡ None → (i : ℕ) (r : Resolved) → has_seen seen i ≡ false → find (is_of i) (all_resolved schema ws) ≡ Some r
    → is_placed_at (binding_of r.member) ≡ true → f r ≡ None
bound_first f schema seen [] e i r unseen is placed = absurd (cc is)
bound_first f schema seen (w ∷ ws) e i r unseen is placed = go (resolved schema w) refl (λ p none more h. bound_first f schema (seen ++ p ∷ []) ws none i r more h placed) is
  where
    go : (o : Option Resolved) → resolved schema w ≡ o
        → ((p : ℕ) → writes_fault_by f schema (seen ++ p ∷ []) ws ≡ None → has_seen (seen ++ p ∷ []) i ≡ false → find (is_of i) (all_resolved schema ws) ≡ Some r → f r ≡ None)
        → find (is_of i) (cons_option o (all_resolved schema ws)) ≡ Some r → f r ≡ None
    go None q rest h = absurd (resolves f schema seen w ws e q)
    go (Some x) q rest h = by (x.position == i) refl h
      where
        faults : HasNoFault f schema seen x ws
        faults = no_fault f schema seen w ws x e q

        by : (t : Bool) → (x.position == i) ≡ t → cond t (Some x) (find (is_of i) (all_resolved schema ws)) ≡ Some r → f r ≡ None
        by false et h = rest x.position faults.later (seen_next seen x.position i ∙ (λ j. unseen j || (et j || false))) h
        by true et h =
            let same : x ≡ r = cc h in
            let first : (is_placed_at (binding_of x.member) && not (has_seen seen x.position)) ≡ true = (λ j. is_placed_at (binding_of (same j).member) && not ((seen_same seen x.position i et ∙ unseen) j)) ∙ ap (λ b. b && true) placed in
            let fault = (no_first (unless (fits_member x.member x.value) (wrong_kind x.member x.value)) (cond (is_placed_at (binding_of x.member) && not (has_seen seen x.position)) (f x) None) faults.own).1 in
            subst (λ y. f y ≡ None) same (sym (ap (λ b. cond b (f x) None) first) ∙ fault)

-- the first write of a bound member other than a payload has no fault of its own: of an output, whose faults are others
pub first_unfaulted : (f : Resolved → Option Fault) (schema : Schema) (ws : List Write) → writes_fault_by f schema [] ws ≡ None → (i : ℕ) (r : Resolved) → first schema ws i ≡ Some r
    → is_placed_at (binding_of r.member) ≡ true → f r ≡ None
first_unfaulted f schema ws e i r is bound = bound_first f schema [] ws e i r refl is bound

-- and of an input
pub conforming_bound : (schema : Schema) (ws : List Write) → writes_fault schema [] ws ≡ None → (i : ℕ) (r : Resolved) → first schema ws i ≡ Some r
    → is_placed_at (binding_of r.member) ≡ true → bound_fault r ≡ None
unfolding writes_fault
conforming_bound schema ws e i r is bound = first_unfaulted bound_fault schema ws e i r is bound

-- a write as it resolved: fitting, and in range
pub record IsFittingWrite (r : Resolved) : Type 0 where
  pub fits : fits_member r.member r.value ≡ true
  pub in_range : is_in_range r.value ≡ true

fitting_behind : (f : Resolved → Option Fault) (schema : Schema) (seen : List ℕ) (ws : List Write) → writes_fault_by f schema seen ws ≡ None → are_in_range ws ≡ true → AllByRecursion IsFittingWrite (all_resolved schema ws)
fitting_behind f schema seen [] e range = tt
fitting_behind f schema seen (w ∷ ws) e range =
    let ranges = and_parts (is_in_range w.value) (are_in_range ws) range in
    go (resolved schema w) refl ranges.0 (λ p none. fitting_behind f schema (seen ++ p ∷ []) ws none ranges.1)
  where
    fitting : (r : Resolved) (t : Bool) → option_or (unless t (wrong_kind r.member r.value)) (cond (is_placed_at (binding_of r.member) && not (has_seen seen r.position)) (f r) None) ≡ None → t ≡ true
    fitting r true h = refl
    fitting r false h = absurd (cc h)

    go : (o : Option Resolved) → resolved schema w ≡ o → is_in_range w.value ≡ true → ((p : ℕ) → writes_fault_by f schema (seen ++ p ∷ []) ws ≡ None → AllByRecursion IsFittingWrite (all_resolved schema ws))
        → AllByRecursion IsFittingWrite (cons_option o (all_resolved schema ws))
    go None is here rest = absurd (resolves f schema seen w ws e is)
    go (Some r) is here rest =
        let faults = no_fault f schema seen w ws r e is in
        let at = resolve-resolved schema w r is in
        let again : resolved schema w ≡ Some (record { position = r.position; member = r.member; value = w.value }) = rw (at.0, at.1) refl in
        let same : record { position = r.position; member = r.member; value = w.value } ≡ r = cc (again, is) in
        (record { fits = fitting r (fits_member r.member r.value) faults.own; in_range = ap (λ x. is_in_range x.value) (sym same) ∙ here }, rest r.position faults.later)

pub fitting_by : (f : Resolved → Option Fault) (schema : Schema) (ws : List Write) → writes_fault_by f schema [] ws ≡ None → are_in_range ws ≡ true → AllByRecursion IsFittingWrite (all_resolved schema ws)
fitting_by f schema ws e range = fitting_behind f schema [] ws e range

pub fitting_writes : (schema : Schema) (ws : List Write) → writes_fault schema [] ws ≡ None → are_in_range ws ≡ true → AllByRecursion IsFittingWrite (all_resolved schema ws)
unfolding writes_fault
fitting_writes schema ws e range = fitting_by bound_fault schema ws e range
