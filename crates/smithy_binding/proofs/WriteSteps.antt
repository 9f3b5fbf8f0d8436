-- A list of writes, a write at a time.
use Rattle.smithy_binding.proofs.Common.{◌≡◌, refl, ap, ◌∙◌, subst, ℕ, zero, suc, ◌+◌, Bool, true, false, ◌&&◌, List, [], ◌∷◌, drop, filter_map, slice_get, slice_set, arith, Option, Some, None, option_map, option_and_then, Ok, Err, if◌then◌else◌, list_all, cons_option, option_map_or, option_or, and_parts, Schema, Table, at_place, member_at, members_of, binding_of, label_at, value_in, listed, Write, list_of, OneWrite, Resolved, resolve, resolved, all_resolved, fits_member, Direction, Fault, no_member, wrong_kind, bound_fault, bound_fault_in, status_fault_in, is_placed_at, Gathered, is_seen, placed, ok_unless, gather, gather_one, gather_resolved, add_or_fault, placed_first, first_fault, found_at, finds}
use Rattle.smithy_serde.specs.Values.{Label}
use Rattle.smithy_binding.specs.declared.direction.Direction.TheVariants as direction

pub drop-some : {X : Type 0} (xs : List X) (i : ℕ) (x : X) → slice_get xs i ≡ Some x → drop i xs ≡ x ∷ drop (i + 1) xs
drop-some [] i x e = absurd (cc e)
drop-some (y ∷ ys) zero x e = let same : y ≡ x = cc e in ap (λ z. z ∷ ys) same
drop-some (y ∷ ys) (suc i) x e = let next : suc i + 1 ≡ suc (i + 1) = omega arith in rw next (drop-some ys i x e)

pub drop-none : {X : Type 0} (xs : List X) (i : ℕ) → slice_get xs i ≡ None → drop i xs ≡ []
drop-none [] zero e = refl
drop-none [] (suc i) e = refl
drop-none (y ∷ ys) zero e = absurd (cc e)
drop-none (y ∷ ys) (suc i) e = drop-none ys i e

-- a write further
module _ (t : Table) (way : Direction) (schema : Schema) (s : Gathered) (x : OneWrite) (rest more : List OneWrite) (steps : rest ≡ x ∷ more) where
  pub gather-more : (next : Gathered) → gather_one way schema s (record { label = label_at t x.node.0; value = value_in t x.value }) ≡ Ok next
      → gather way schema s (list_of (listed t rest)) ≡ gather way schema next (list_of (listed t more))
  unfolding gather
  gather-more next e = rw (steps, e) refl

  pub gather-stop : (f : Fault) → gather_one way schema s (record { label = label_at t x.node.0; value = value_in t x.value }) ≡ Err f
      → gather way schema s (list_of (listed t rest)) ≡ Err f
  unfolding gather
  gather-stop f e = rw (steps, e) refl

pub gather-end : (t : Table) (way : Direction) (schema : Schema) (s : Gathered) (rest : List OneWrite) → rest ≡ [] → gather way schema s (list_of (listed t rest)) ≡ Ok s
unfolding gather
gather-end t way schema s rest none = rw none refl

-- the member that a write is for, if there is one
pub resolved-is : (schema : Schema) (w : Write) → resolved schema w ≡ option_map (λ r. record { position = r.0; member = r.1; value = w.value }) (finds schema w.label)
resolved-is schema w = go (resolve schema w.label)
  where
    member : (i : ℕ) (o : Option Schema) → ◌≡◌ {A = Option Resolved} (option_map (λ m. record { position = i; member = m; value = w.value }) o)
        (option_map (λ (r : ℕ × Schema). record { position = r.0; member = r.1; value = w.value }) (option_map (λ m. (i, m)) o))
    member i None = refl
    member i (Some m) = refl

    go : (o : Option ℕ) → ◌≡◌ {A = Option Resolved} (option_and_then (λ i. option_map (λ m. record { position = i; member = m; value = w.value }) (member_at schema i)) o)
        (option_map (λ (r : ℕ × Schema). record { position = r.0; member = r.1; value = w.value }) (option_and_then (found_at schema) o))
    go None = refl
    go (Some i) = member i (member_at schema i)

pub gather_one-at : (way : Direction) (schema : Schema) (s : Gathered) (w : Write) (i : ℕ) (m : Schema) → finds schema w.label ≡ Some (i, m)
    → gather_one way schema s w ≡ add_or_fault way schema s (record { position = i; member = m; value = w.value })
unfolding gather_one
gather_one-at way schema s w i m e = ap (gather_resolved way schema s w) (resolved-is schema w ∙ ap (option_map (λ (r : ℕ × Schema). record { position = r.0; member = r.1; value = w.value })) e)

pub gather_one-none : (way : Direction) (schema : Schema) (s : Gathered) (w : Write) → finds schema w.label ≡ None → gather_one way schema s w ≡ Err (no_member w.label)
unfolding gather_one
gather_one-none way schema s w e = ap (gather_resolved way schema s w) (resolved-is schema w ∙ ap (option_map (λ (r : ℕ × Schema). record { position = r.0; member = r.1; value = w.value })) e)

-- and its place
pub found-member : (schema : Schema) (l : Label) (i : ℕ) (m : Schema) → finds schema l ≡ Some (i, m) → member_at schema i ≡ Some m
found-member schema l i m e = go (resolve schema l) e
  where
    at : (j : ℕ) (o : Option Schema) → member_at schema j ≡ o → option_map {U = ℕ × Schema} (λ (n : Schema). (j, n)) o ≡ Some (i, m) → member_at schema i ≡ Some m
    at j None h e = absurd (cc e)
    at j (Some n) h e =
        let position : j ≡ i = ap (λ (o : Option (ℕ × Schema)). option_map_or (λ p. p.0) o 0) e in
        let member : n ≡ m = ap (λ (o : Option (ℕ × Schema)). option_map_or (λ p. p.1) o n) e in
        rw (← position, ← member) h

    go : (o : Option ℕ) → option_and_then (found_at schema) o ≡ Some (i, m) → member_at schema i ≡ Some m
    go None e = absurd (cc e)
    go (Some j) e = at j (member_at schema j) refl e

-- what is kept of it
pub kept-at : (schema : Schema) (w : Write) (i : ℕ) (m : Schema) → finds schema w.label ≡ Some (i, m) → all_resolved schema (w ∷ []) ≡ record { position = i; member = m; value = w.value } ∷ []
kept-at schema w i m e = ap (λ (o : Option Resolved). cons_option o []) (resolved-is schema w ∙ ap (option_map (λ (r : ℕ × Schema). record { position = r.0; member = r.1; value = w.value })) e)

-- a value that doesn't fit
pub add-wrong : (way : Direction) (schema : Schema) (s : Gathered) (r : Resolved) → fits_member r.member r.value ≡ false → add_or_fault way schema s r ≡ Err (wrong_kind r.member r.value)
add-wrong way schema s r e = rw e refl

-- a later write of a member
pub add-again : (way : Direction) (schema : Schema) (s : Gathered) (r : Resolved) → fits_member r.member r.value ≡ true → is_seen s r.position ≡ true → add_or_fault way schema s r ≡ Ok s
add-again way schema s r e seen = rw (e, seen) (go (is_placed_at (binding_of r.member)))
  where
    go : (b : Bool) → ok_unless (if b && false then bound_fault_in way r else None) s ≡ Ok s
    go true = refl
    go false = refl

-- what the direction asks further comes behind the fault of the value
further : (way : Direction) (r : Resolved) → bound_fault_in way r ≡ option_or (bound_fault r) (status_fault_in way (binding_of r.member) r.value)
further direction.Request r = go (bound_fault r)
  where
    go : (o : Option Fault) → o ≡ option_or o None
    go None = refl
    go (Some f) = refl
further direction.Response r = refl

abbrev both_faults : Direction → Resolved → Option Fault
both_faults way r = option_or (first_fault r.member r.value) (status_fault_in way (binding_of r.member) r.value)

add-unseen : (way : Direction) (schema : Schema) (s : Gathered) (r : Resolved) → is_placed_at (binding_of r.member) ≡ true → fits_member r.member r.value ≡ true → is_seen s r.position ≡ false
    → add_or_fault way schema s r ≡ ok_unless (both_faults way r) (placed schema s r)
add-unseen way schema s r bound e unseen = rw (e, unseen, bound) (ap (λ o. ok_unless o (placed schema s r)) (further way r))

-- the first write of a member of the body
pub add-body : (way : Direction) (schema : Schema) (s : Gathered) (r : Resolved) → is_placed_at (binding_of r.member) ≡ false → fits_member r.member r.value ≡ true → is_seen s r.position ≡ false
    → add_or_fault way schema s r ≡ Ok (placed schema s r)
add-body way schema s r bound e unseen = rw (e, unseen, bound) refl

-- the first write of another member
pub add-first : (way : Direction) (schema : Schema) (s : Gathered) (r : Resolved) → is_placed_at (binding_of r.member) ≡ true → fits_member r.member r.value ≡ true → is_seen s r.position ≡ false → first_fault r.member r.value ≡ None
    → status_fault_in way (binding_of r.member) r.value ≡ None
    → add_or_fault way schema s r ≡ Ok (record (placed_first schema r.member r.value s) { seen = slice_set s.seen r.position true })
add-first way schema s r bound e unseen none code = add-unseen way schema s r bound e unseen ∙ (λ i. ok_unless (option_or (none i) (code i)) (placed schema s r))

pub add-fault : (way : Direction) (schema : Schema) (s : Gathered) (r : Resolved) (f : Fault) → is_placed_at (binding_of r.member) ≡ true → fits_member r.member r.value ≡ true → is_seen s r.position ≡ false → first_fault r.member r.value ≡ Some f
    → add_or_fault way schema s r ≡ Err f
add-fault way schema s r f bound e unseen some =
    add-unseen way schema s r bound e unseen ∙ ap (λ o. ok_unless (option_or o (status_fault_in way (binding_of r.member) r.value)) (placed schema s r)) some

pub add-code : (way : Direction) (schema : Schema) (s : Gathered) (r : Resolved) (f : Fault) → is_placed_at (binding_of r.member) ≡ true → fits_member r.member r.value ≡ true → is_seen s r.position ≡ false → first_fault r.member r.value ≡ None
    → status_fault_in way (binding_of r.member) r.value ≡ Some f → add_or_fault way schema s r ≡ Err f
add-code way schema s r f bound e unseen none code = add-unseen way schema s r bound e unseen ∙ (λ i. ok_unless (option_or (none i) (code i)) (placed schema s r))

-- a test that each member passes
pub member-passes : (test : Schema → Bool) (schema : Schema) (i : ℕ) (m : Schema) → list_all test (members_of schema) ≡ true → member_at schema i ≡ Some m → test m ≡ true
member-passes test schema i m all at = go schema.node.members i all at
  where
    go : (places : List ℕ) (i : ℕ) → list_all test (filter_map (at_place schema.table) places) ≡ true → option_and_then (at_place schema.table) (slice_get places i) ≡ Some m → test m ≡ true
    go [] i all at = absurd (cc at)
    go (p ∷ places) zero all at = first (at_place schema.table p) all at
      where
        first : (o : Option Schema) → list_all test (cons_option o (filter_map (at_place schema.table) places)) ≡ true → o ≡ Some m → test m ≡ true
        first None all at = absurd (cc at)
        first (Some n) all at = let same : n ≡ m = cc at in subst (λ x. test x ≡ true) same (and_parts (test n) _ all).0
    go (p ∷ places) (suc i) all at = go places i (later (at_place schema.table p) all) at
      where
        later : (o : Option Schema) → list_all test (cons_option o (filter_map (at_place schema.table) places)) ≡ true → list_all test (filter_map (at_place schema.table) places) ≡ true
        later None all = all
        later (Some n) all = (and_parts (test n) _ all).1
