-- The joint walk over the writes gives what the definitions say of faults, headers, pairs and labels.
use Rattle.smithy_binding.proofs.Common.{◌≡◌, ◌≢◌, refl, ap, sym, ◌∙◌, Bool, true, false, ◌||◌, ◌==◌, List, ℕ, ◌<◌, [], ◌∷◌, ◌++◌, length, get_or, set, flat_map, Option, Some, None, option_map, option_and_then, option_to_list, append_assoc, if◌then◌else◌, eq-eqb, subst, get_or-set_other, get_or-set_same, slice_get, eqb-true, append-nil, length-set, get_or-replicate, length-replicate, list_any-append, cons_option, option_or, option_map_or, then_try, Schema, at_place, member_at, Write, Resolved, resolve, resolved, all_resolved, firsts_from, firsts, has_seen, put, put_all, inserted, headers, pairs, labels, Direction, Fault, writes_fault_by, resolved_fault_by, bound_fault_in, no_member, queries, Gathered, is_seen, placed, added, ok_unless, fault_at, gather_resolved, gather_one, gather, nothing_yet, pairs_of, labelled}
use Rattle.std.proofs.lemmas.Option.{slice_get_within}
use Rattle.smithy_binding.proofs.ElementSteps.{queries-append}

put_all-append : (done ps qs : List (List ℕ × List ℕ)) → put_all done (ps ++ qs) ≡ put_all (put_all done ps) qs
put_all-append done [] qs = refl
put_all-append done (p ∷ ps) qs = put_all-append (put done p) ps qs

pub resolve-resolved : (schema : Schema) (w : Write) (r : Resolved) → resolved schema w ≡ Some r → (resolve schema w.label ≡ Some r.position) × (member_at schema r.position ≡ Some r.member)
resolve-resolved schema w r e = go (resolve schema w.label) refl
  where
    member : (i : ℕ) (m : Option Schema) → member_at schema i ≡ m → option_map (λ (m : Schema). record { position = i; member = m; value = w.value }) m ≡ Some r
        → (i ≡ r.position) × (member_at schema r.position ≡ Some r.member)
    member i None at h = absurd (cc h)
    member i (Some m) at h =
        let same : i ≡ r.position = ap (λ (o : Option Resolved). option_map_or (λ x. x.position) o 0) h in
        let here : m ≡ r.member = ap (λ (o : Option Resolved). option_map_or (λ x. x.member) o m) h in
        (same, (rw (← same, ← here) at))

    go : (o : Option ℕ) → resolve schema w.label ≡ o → (o ≡ Some r.position) × (member_at schema r.position ≡ Some r.member)
    go None h = absurd (let q : None ≡ Some r = sym (rw h refl) ∙ e in cc q)
    go (Some i) h = let both = member i (member_at schema i) refl (rw h at e) in (ap Some both.0, both.1)

-- a position at which a member stands
member-within : (schema : Schema) (i : ℕ) (m : Schema) → member_at schema i ≡ Some m → i < length schema.node.members
member-within schema i m e = go (slice_get schema.node.members i) refl e
  where
    go : (o : Option ℕ) → slice_get schema.node.members i ≡ o → option_and_then (at_place schema.table) o ≡ Some m → i < length schema.node.members
    go None h given = absurd (cc given)
    go (Some p) h given = slice_get_within schema.node.members i p h

-- the marks say which positions are seen
record Agrees (schema : Schema) (marks : List Bool) (seen : List ℕ) : Type 0 where
  size : length marks ≡ length schema.node.members
  same : (i : ℕ) → i < length schema.node.members → get_or marks i false ≡ has_seen seen i

pub seen_next : (seen : List ℕ) (p i : ℕ) → has_seen (seen ++ p ∷ []) i ≡ (has_seen seen i || ((p == i) || false))
seen_next seen p i = list_any-append (λ k. k == i) seen (p ∷ [])

-- a mark that is there stays
Agrees-again : (schema : Schema) (marks : List Bool) (seen : List ℕ) (p : ℕ) → Agrees schema marks seen → p < length schema.node.members → get_or marks p false ≡ true
    → Agrees schema marks (seen ++ p ∷ [])
Agrees-again schema marks seen p a l e = record { size = a.size; same = λ i h. a.same i h ∙ go i (p == i) refl ∙ sym (seen_next seen p i) }
  where
    go : (i : ℕ) (b : Bool) → (p == i) ≡ b → has_seen seen i ≡ (has_seen seen i || (b || false))
    go i false h = or_false (has_seen seen i)
      where
        or_false : (x : Bool) → x ≡ (x || false)
        or_false true = refl
        or_false false = refl
    go i true h = let there : has_seen seen i ≡ true = subst (λ k. has_seen seen k ≡ true) (eqb-true p i h) (sym (a.same p l) ∙ e) in rw there refl

-- a mark that is set
Agrees-first : (schema : Schema) (marks : List Bool) (seen : List ℕ) (p : ℕ) → Agrees schema marks seen → p < length schema.node.members
    → Agrees schema (set marks p true) (seen ++ p ∷ [])
Agrees-first schema marks seen p a l = record { size = length-set marks p true ∙ a.size; same = λ i h. go i h (p == i) refl ∙ sym (seen_next seen p i) }
  where
    or_true : (x : Bool) → true ≡ (x || true)
    or_true true = refl
    or_true false = refl

    or_false : (x : Bool) → x ≡ (x || false)
    or_false true = refl
    or_false false = refl

    go : (i : ℕ) → i < length schema.node.members → (b : Bool) → (p == i) ≡ b → get_or (set marks p true) i false ≡ (has_seen seen i || (b || false))
    go i h true e =
        let within : p < length marks = subst (λ n. p < n) (sym a.size) l in
        subst (λ k. get_or (set marks p true) k false ≡ true) (eqb-true p i e) (get_or-set_same marks p true false within) ∙ or_true (has_seen seen i)
    go i h false e =
        let other : i ≢ p = λ q. let t : true ≡ false = sym (eq-eqb p i (sym q)) ∙ e in cc t in
        get_or-set_other marks p i true false other ∙ a.same i h ∙ or_false (has_seen seen i)

Agrees-none : (schema : Schema) → Agrees schema (nothing_yet schema).seen []
Agrees-none schema = record { size = length-replicate (length schema.node.members) false; same = λ i h. get_or-replicate (length schema.node.members) i false false h }

Agrees-added : (schema : Schema) (s : Gathered) (seen : List ℕ) (r : Resolved) → Agrees schema s.seen seen → r.position < length schema.node.members
    → Agrees schema (added schema s r).seen (seen ++ r.position ∷ [])
Agrees-added schema s seen r a l = go (is_seen s r.position) refl
  where
    go : (b : Bool) → is_seen s r.position ≡ b → Agrees schema (if b then s else placed schema s r).seen (seen ++ r.position ∷ [])
    go true e = Agrees-again schema s.seen seen r.position a l e
    go false e = Agrees-first schema s.seen seen r.position a l

-- what is gathered in the end, write by write
abbrev pub gathered : Schema → Gathered → List Resolved → Gathered
gathered schema s [] = s
gathered schema s (r ∷ rs) = gathered schema (added schema s r) rs

gather-fault : (way : Direction) (schema : Schema) (s : Gathered) (seen : List ℕ) (ws : List Write) → Agrees schema s.seen seen
    → gather way schema s ws ≡ ok_unless (writes_fault_by (bound_fault_in way) schema seen ws) (gathered schema s (all_resolved schema ws))
unfolding gather gather_one
gather-fault way schema s seen [] a = refl
gather-fault way schema s seen (w ∷ ws) a = go (resolved schema w) refl (λ t seen b. gather-fault way schema t seen ws b)
  where
    step : (r : Resolved) (f g : Option Fault) (t : Gathered) → f ≡ g
        → gather way schema t ws ≡ ok_unless (writes_fault_by (bound_fault_in way) schema (seen ++ r.position ∷ []) ws) (gathered schema t (all_resolved schema ws))
        → then_try (ok_unless f t) (λ t. gather way schema t ws) ≡ ok_unless (option_or g (writes_fault_by (bound_fault_in way) schema (seen ++ r.position ∷ []) ws)) (gathered schema t (all_resolved schema ws))
    step r (Some f) g t e rest = rw (← e) refl
    step r None g t e rest = rw (← e) rest

    go : (o : Option Resolved) → resolved schema w ≡ o
        → ((t : Gathered) (seen : List ℕ) → Agrees schema t.seen seen → gather way schema t ws ≡ ok_unless (writes_fault_by (bound_fault_in way) schema seen ws) (gathered schema t (all_resolved schema ws)))
        → then_try (gather_resolved way schema s w o) (λ t. gather way schema t ws)
        ≡ ok_unless (option_or (option_map_or (resolved_fault_by (bound_fault_in way) seen) o (Some (no_member w.label))) (writes_fault_by (bound_fault_in way) schema (seen ++ option_to_list (resolve schema w.label)) ws)) (gathered schema s (cons_option o (all_resolved schema ws)))
    go None e rest = refl
    go (Some r) e rest =
        let at = resolve-resolved schema w r e in
        let l = member-within schema r.position r.member at.1 in
        rw at.0 (step r (fault_at way (is_seen s r.position) r) (resolved_fault_by (bound_fault_in way) seen r) (added schema s r) (ap (λ b. fault_at way b r) (a.same r.position l)) (rest (added schema s r) _ (Agrees-added schema s seen r a l)))

-- the same for the first writes alone
abbrev all_placed : Schema → Gathered → List Resolved → Gathered
all_placed schema s [] = s
all_placed schema s (r ∷ rs) = all_placed schema (placed schema s r) rs

abbrev AreMembers : Schema → List Resolved → Type 0
AreMembers schema [] = Unit {0}
AreMembers schema (r ∷ rs) = (r.position < length schema.node.members) × AreMembers schema rs

AreMembers-all : (schema : Schema) (ws : List Write) → AreMembers schema (all_resolved schema ws)
AreMembers-all schema [] = tt
AreMembers-all schema (w ∷ ws) = go (resolved schema w) refl (AreMembers-all schema ws)
  where
    go : (o : Option Resolved) → resolved schema w ≡ o → AreMembers schema (all_resolved schema ws) → AreMembers schema (cons_option o (all_resolved schema ws))
    go None e rest = rest
    go (Some r) e rest = (member-within schema r.position r.member (resolve-resolved schema w r e).1, rest)

gathered-firsts : (schema : Schema) (s : Gathered) (seen : List ℕ) (rs : List Resolved) → Agrees schema s.seen seen → AreMembers schema rs
    → gathered schema s rs ≡ all_placed schema s (firsts_from seen rs)
gathered-firsts schema s seen [] a ms = refl
gathered-firsts schema s seen (r ∷ rs) a ms =
    go (is_seen s r.position) (has_seen seen r.position) (a.same r.position ms.0) refl
    (gathered-firsts schema (added schema s r) (seen ++ r.position ∷ []) rs (Agrees-added schema s seen r a ms.0) ms.1)
  where
    go : (b c : Bool) → b ≡ c → is_seen s r.position ≡ b
        → gathered schema (if b then s else placed schema s r) rs ≡ all_placed schema (if b then s else placed schema s r) (firsts_from (seen ++ r.position ∷ []) rs)
        → gathered schema (if b then s else placed schema s r) rs ≡ all_placed schema s (if c then firsts_from (seen ++ r.position ∷ []) rs else r ∷ firsts_from (seen ++ r.position ∷ []) rs)
    go true true e h rest = rest
    go false false e h rest = rest
    go true false e h rest = absurd (cc e)
    go false true e h rest = absurd (cc e)

all_placed-headers : (schema : Schema) (s : Gathered) (rs : List Resolved) → (all_placed schema s rs).headers ≡ put_all s.headers (flat_map inserted rs)
all_placed-headers schema s [] = refl
all_placed-headers schema s (r ∷ rs) = all_placed-headers schema (placed schema s r) rs ∙ sym (put_all-append s.headers (inserted r) (flat_map inserted rs))

all_placed-query : (schema : Schema) (s : Gathered) (rs : List Resolved) → (all_placed schema s rs).query ≡ s.query ++ queries (flat_map (pairs_of schema) rs)
all_placed-query schema s [] = sym (append-nil s.query)
all_placed-query schema s (r ∷ rs) =
    all_placed-query schema (placed schema s r) rs ∙ append_assoc s.query (queries (pairs_of schema r)) (queries (flat_map (pairs_of schema) rs))
    ∙ ap (λ t. s.query ++ t) (sym (queries-append (pairs_of schema r) (flat_map (pairs_of schema) rs)))

all_placed-labels : (schema : Schema) (s : Gathered) (rs : List Resolved) → (all_placed schema s rs).labels ≡ s.labels ++ flat_map labelled rs
all_placed-labels schema s [] = sym (append-nil s.labels)
all_placed-labels schema s (r ∷ rs) = all_placed-labels schema (placed schema s r) rs ∙ append_assoc s.labels (labelled r) (flat_map labelled rs)

-- the end of the walk over all writes
pub record IsGathered (schema : Schema) (ws : List Write) (t : Gathered) : Type 0 where
  pub headers : t.headers ≡ headers schema ws
  pub query : t.query ≡ queries (pairs schema ws)
  pub labels : t.labels ≡ labels schema ws

pub IsGathered-all : (schema : Schema) (ws : List Write) → IsGathered schema ws (gathered schema (nothing_yet schema) (all_resolved schema ws))
unfolding headers pairs labels
IsGathered-all schema ws =
    let first = gathered-firsts schema (nothing_yet schema) [] (all_resolved schema ws) (Agrees-none schema) (AreMembers-all schema ws) in
    record {
      headers = ap (λ t. t.headers) first ∙ all_placed-headers schema (nothing_yet schema) (firsts schema ws);
      query = ap (λ t. t.query) first ∙ all_placed-query schema (nothing_yet schema) (firsts schema ws);
      labels = ap (λ t. t.labels) first ∙ all_placed-labels schema (nothing_yet schema) (firsts schema ws);
    }

-- the walk is the first fault, or else what is gathered
pub gather-all : (way : Direction) (schema : Schema) (ws : List Write)
    → gather way schema (nothing_yet schema) ws ≡ ok_unless (writes_fault_by (bound_fault_in way) schema [] ws) (gathered schema (nothing_yet schema) (all_resolved schema ws))
gather-all way schema ws = gather-fault way schema (nothing_yet schema) [] ws (Agrees-none schema)
