-- What is kept for the body, a write at a time.
use Rattle.smithy_binding.proofs.Common.{◌≡◌, refl, ap, sym, ◌∙◌, ℕ, Bool, true, false, not, ◌||◌, ◌==◌, cond, List, [], ◌∷◌, ◌++◌, append_assoc, map, filter, find, slice_set, subst, Option, Some, None, option_map, Ok, if◌then◌else◌, IfSome, cons_option, option_or, option_map_or, eqb-true, append-nil, map-append, Schema, Table, Binding, to_body, to_payload, binding_of, is_bound, is_outside_body, member_at, fits_member, label_at, HasNode, value_in, IsDefined, listed, AreListedDefined, Value, Write, list_of, label_of, OneWrite, Resolved, resolved, all_resolved, firsts_from, has_seen, put_all, inserted_at, pairs_at, labelled_at, query_names, BodyParts, body_parts, is_payload, is_placed_at, Direction, Gathered, is_seen, add_or_fault, finds, queries, no_parts, kept_at, keep, keep_all, write_in, unbound_in, kept_in, IsEmpty, AreDefinedWrites, IsKeptDefined}
use Rattle.smithy_binding.specs.views.KeptWrites.{value_of}
use Rattle.smithy_binding.specs.declared.body_writes.BodyWrite.{BodyWrite}
use Rattle.smithy_binding.specs.declared.body_writes.BodyWrites.{BodyWrites}
use Rattle.smithy_binding.proofs.Gathers.{resolve-resolved, seen_next}
use Rattle.smithy_binding.proofs.WriteSteps.{add-body, kept-at}

-- the first write of a member of the body is marked alone
pub add-unplaced : (way : Direction) (schema : Schema) (s : Gathered) (r : Resolved) → fits_member r.member r.value ≡ true → is_seen s r.position ≡ false → is_placed_at (binding_of r.member) ≡ false
    → add_or_fault way schema s r ≡ Ok (record s { seen = slice_set s.seen r.position true })
add-unplaced way schema s r fits unseen unplaced =
    add-body way schema s r unplaced fits unseen ∙ ap (λ (g : Gathered). Ok g) (go (binding_of r.member) unplaced)
  where
    marks : List Bool
    marks = slice_set s.seen r.position true

    go : (b : Binding) → is_placed_at b ≡ false
        → ◌≡◌ {A = Gathered}
        (record { seen = marks; headers = put_all s.headers (inserted_at b r.member r.value); query = s.query ++ queries (pairs_at b (query_names schema) r.member r.value); labels = s.labels ++ labelled_at b r.member r.value })
        (record s { seen = marks })
    go to_payload e = rw (append-nil s.query, append-nil s.labels) refl
    go to_body e = rw (append-nil s.query, append-nil s.labels) refl
    go _ e = absurd (cc e)

-- a write to this member
pub kept-one : (schema : Schema) (parts : BodyParts) (w : Write) (i : ℕ) (m : Schema) → finds schema w.label ≡ Some (i, m)
    → keep_all parts (all_resolved schema (w ∷ [])) ≡ keep parts (record { position = i; member = m; value = w.value })
kept-one schema parts w i m e = ap (keep_all parts) (kept-at schema w i m e)

kept-cons : (schema : Schema) (parts : BodyParts) (w : Write) (ws : List Write) → keep_all parts (all_resolved schema (w ∷ ws)) ≡ keep_all (keep_all parts (all_resolved schema (w ∷ []))) (all_resolved schema ws)
kept-cons schema parts w ws = go (resolved schema w)
  where
    go : (o : Option Resolved) → keep_all parts (cons_option o (all_resolved schema ws)) ≡ keep_all (keep_all parts (cons_option o [])) (all_resolved schema ws)
    go None = refl
    go (Some r) = refl

-- a write further
pub kept-step : (t : Table) (schema : Schema) (x : OneWrite) (rest more : List OneWrite) (old new : BodyParts) → rest ≡ x ∷ more
    → new ≡ keep_all old (all_resolved schema (record { label = label_at t x.node.0; value = value_in t x.value } ∷ []))
    → keep_all new (all_resolved schema (list_of (listed t more))) ≡ keep_all old (all_resolved schema (list_of (listed t rest)))
kept-step t schema x rest more old new steps e = rw (e, steps) (sym (kept-cons schema old (record { label = label_at t x.node.0; value = value_in t x.value }) (list_of (listed t more))))

pub kept-end : (t : Table) (schema : Schema) (rest : List OneWrite) (parts : BodyParts) → rest ≡ [] → keep_all parts (all_resolved schema (list_of (listed t rest))) ≡ parts
kept-end t schema rest parts none = rw none refl

-- the node and the value of the first write that is left
pub first-defined : (t : Table) (x : OneWrite) (rest more : List OneWrite) → rest ≡ x ∷ more → AreListedDefined t rest → HasNode t x.node.0 × IsDefined t x.value × AreListedDefined t more
first-defined t x rest more steps all = subst (AreListedDefined t) steps all

-- what is kept of all writes, by the members' bindings

shown : List Resolved → List Write
shown rs = map (λ r. record { label = label_of r.member; value = r.value }) (filter (λ r. not (is_bound r.member)) rs)

payload_in : List Resolved → Option Resolved
payload_in rs = find (λ r. is_payload (binding_of r.member)) rs

or_none : (o : Option Value) → option_or o None ≡ o
or_none None = refl
or_none (Some v) = refl

kept_once : (o p : Option Value) (v : Value) → option_or (option_or o (Some v)) p ≡ option_or o (Some v)
kept_once None p v = refl
kept_once (Some u) p v = refl

keep_all-is : (parts : BodyParts) (rs : List Resolved)
    → keep_all parts rs ≡ record { unbound = parts.unbound ++ shown rs; payload = option_or parts.payload (option_map (λ r. r.value) (payload_in rs)) }
unfolding shown payload_in
keep_all-is parts [] = rw (append-nil parts.unbound, or_none parts.payload) refl
keep_all-is parts (r ∷ rs) = go (binding_of r.member) (λ p. keep_all-is p rs)
  where
    w : Write
    w = record { label = label_of r.member; value = r.value }

    go : (b : Binding)
        → ((p : BodyParts) → keep_all p rs ≡ record { unbound = p.unbound ++ shown rs; payload = option_or p.payload (option_map (λ r. r.value) (payload_in rs)) })
        → ◌≡◌ {A = BodyParts} (keep_all (kept_at b r.member r.value parts) rs)
        (record {
          unbound = parts.unbound ++ map (λ (r : Resolved). record { label = label_of r.member; value = r.value }) (cond (not (is_outside_body b)) (r ∷ filter (λ r. not (is_bound r.member)) rs) (filter (λ r. not (is_bound r.member)) rs));
          payload = option_or parts.payload (option_map (λ (r : Resolved). r.value) (cond (is_payload b) (Some r) (payload_in rs)));
        })
    go to_body rest =
        rest (record parts { unbound = parts.unbound ++ w ∷ [] })
        ∙ ap (λ (us : List Write). record { unbound = us; payload = option_or parts.payload (option_map (λ r. r.value) (payload_in rs)) }) (append_assoc parts.unbound (w ∷ []) (shown rs))
    go to_payload rest =
        rest (record parts { payload = option_or parts.payload (Some r.value) })
        ∙ ap (λ (p : Option Value). record { unbound = parts.unbound ++ shown rs; payload = p }) (kept_once parts.payload (option_map (λ r. r.value) (payload_in rs)) r.value)
    go _ rest = rest parts

-- each write has the member of its position
AreAt : Schema → List Resolved → Type 0
AreAt schema [] = Unit {0}
AreAt schema (r ∷ rs) = (member_at schema r.position ≡ Some r.member) × AreAt schema rs

AreAt-all : (schema : Schema) (ws : List Write) → AreAt schema (all_resolved schema ws)
unfolding AreAt
AreAt-all schema [] = tt
AreAt-all schema (w ∷ ws) = go (resolved schema w) refl (AreAt-all schema ws)
  where
    go : (o : Option Resolved) → resolved schema w ≡ o → AreAt schema (all_resolved schema ws) → AreAt schema (cons_option o (all_resolved schema ws))
    go None e rest = rest
    go (Some r) e rest = ((resolve-resolved schema w r e).1, rest)

payload_at : Schema → ℕ → Bool
payload_at schema i = option_map_or (λ m. is_payload (binding_of m)) (member_at schema i) false

-- the first write of a payload is the first of the first writes to one
payload-firsts : (schema : Schema) (seen : List ℕ) (rs : List Resolved) → AreAt schema rs → ((i : ℕ) → has_seen seen i ≡ true → payload_at schema i ≡ false)
    → payload_in (firsts_from seen rs) ≡ payload_in rs
unfolding AreAt payload_at payload_in
payload-firsts schema seen [] at none = refl
payload-firsts schema seen (r ∷ rs) at none = go (has_seen seen r.position) refl (is_payload (binding_of r.member)) refl (λ later. payload-firsts schema (seen ++ r.position ∷ []) rs at.1 later)
  where
    here : payload_at schema r.position ≡ is_payload (binding_of r.member)
    here = ap (λ (o : Option Schema). option_map_or (λ m. is_payload (binding_of m)) o false) at.0

    later : is_payload (binding_of r.member) ≡ false → (i : ℕ) → has_seen (seen ++ r.position ∷ []) i ≡ true → payload_at schema i ≡ false
    later e i h = split (has_seen seen i) refl (r.position == i) refl (sym (seen_next seen r.position i) ∙ h)
      where
        split : (a : Bool) → has_seen seen i ≡ a → (b : Bool) → (r.position == i) ≡ b → (a || (b || false)) ≡ true → payload_at schema i ≡ false
        split true first b same h = none i first
        split false first true same h = subst (λ k. payload_at schema k ≡ false) (eqb-true r.position i same) (here ∙ e)
        split false first false same h = absurd (cc h)

    go : (a : Bool) → has_seen seen r.position ≡ a → (b : Bool) → is_payload (binding_of r.member) ≡ b
        → (((i : ℕ) → has_seen (seen ++ r.position ∷ []) i ≡ true → payload_at schema i ≡ false) → payload_in (firsts_from (seen ++ r.position ∷ []) rs) ≡ payload_in rs)
        → payload_in (if a then firsts_from (seen ++ r.position ∷ []) rs else r ∷ firsts_from (seen ++ r.position ∷ []) rs) ≡ cond b (Some r) (payload_in rs)
    go true first true same rest = let q : false ≡ true = sym (none r.position first) ∙ here ∙ same in absurd (cc q)
    go true first false same rest = rest (later same)
    go false first true same rest = rw same refl
    go false first false same rest = rw same (rest (later same))

-- what is kept of all writes is what the definitions say
pub kept-all : (schema : Schema) (ws : List Write) → keep_all no_parts (all_resolved schema ws) ≡ body_parts schema ws
unfolding shown payload_in
kept-all schema ws =
    keep_all-is no_parts (all_resolved schema ws)
    ∙ ap (λ (o : Option Resolved). record { unbound = shown (all_resolved schema ws); payload = option_map (λ r. r.value) o })
    (sym (payload-firsts schema [] (all_resolved schema ws) (AreAt-all schema ws) (λ i h. absurd (cc h))))

-- the code's lists

pub kept-empty : (t : Table) (b : BodyWrites) → IsEmpty b → kept_in t b ≡ no_parts
kept-empty t b e = rw (e.unbound, e.payload) refl

pub defined-empty : (t : Table) (b : BodyWrites) → IsEmpty b → IsKeptDefined t b
defined-empty t b e = record { unbound = rw e.unbound tt; payload = rw e.payload tt }

pub unbound-push : (t : Table) (old new : List BodyWrite) (w : BodyWrite) → new ≡ old ++ w ∷ [] → unbound_in t new ≡ unbound_in t old ++ write_in t w ∷ []
unbound-push t old new w e = rw e (map-append (write_in t) old (w ∷ []))

pub defined-push : (t : Table) (old new : List BodyWrite) (w : BodyWrite) → new ≡ old ++ w ∷ [] → AreDefinedWrites t old → IsDefined t w.value.now → AreDefinedWrites t new
defined-push t old new w e all one = rw e (go old all)
  where
    go : (ws : List BodyWrite) → AreDefinedWrites t ws → AreDefinedWrites t (ws ++ w ∷ [])
    go [] all = (one, tt)
    go (x ∷ xs) all = (all.0, go xs all.1)

pub payload-once : (t : Table) (old : Option BodyWrite) (w : BodyWrite) → option_map (value_of t) (option_or old (Some w)) ≡ option_or (option_map (value_of t) old) (Some (value_of t w))
payload-once t None w = refl
payload-once t (Some u) w = refl

pub defined-once : (t : Table) (old : Option BodyWrite) (w : BodyWrite) → IfSome old (λ w. IsDefined t w.value.now) → IsDefined t w.value.now
    → IfSome (option_or old (Some w)) (λ w. IsDefined t w.value.now)
defined-once t None w all one = one
defined-once t (Some u) w all one = all
