-- The header names that are at hand, a write at a time.
use Rattle.smithy_binding.proofs.Common.{◌≡◌, refl, ap, sym, ◌∙◌, subst, ℕ, zero, suc, Bool, true, false, List, [], ◌∷◌, slice_get, slice_set, nat_eq, eqb-true, Option, Some, None, option_map, option_and_then, IfSome, Schema, Node, Table, Binding, to_header, binding_of, schema_of, at_place, member_at, Write, Resolved, resolved, all_resolved, finds, AllByRecursion, OneWrite, label_at, value_in, listed, list_of, directed_of, directed_schema, is_placed_at, takes_map}
use Rattle.std.specs.Prelude.{replicate, slice_index_or}
use Rattle.std.proofs.lemmas.Bool.{eqb-false}
use Rattle.std.proofs.lemmas.List.{get_or-set_other}
use Rattle.smithy_schema.specs.Nodes.{binding_at, node_at}
use Rattle.smithy_binding.specs.Words.{SchemaRef, index_of}
use Rattle.smithy_binding.specs.declared.direction.DirectedSchema.{DirectedSchema}
use Rattle.smithy_binding.specs.HeaderNames.{HasNameAt, HaveNames}
use Rattle.smithy_binding.specs.views.Directed.{with_direction}
use Rattle.smithy_binding.specs.views.NamesAtHand.{HasOwnName, IsMemberAt, SeenHaveNames}
use Rattle.smithy_binding.proofs.Directions.{member-in}
use Rattle.smithy_binding.proofs.WriteSteps.{kept-at}

-- the reference that the code has of a member

table_of : (t : Table) (place : Option ℕ) (m : Schema) → Some m ≡ option_and_then (at_place t) place → m.table ≡ t
table_of t None m e = absurd (cc e)
table_of t (Some p) m e = go (node_at t p) e
  where
    go : (n : Option Node) → Some m ≡ option_map (λ (n : Node). record { table = t; node = n }) n → m.table ≡ t
    go None e = absurd (cc e)
    go (Some n) e = let same : m ≡ record { table = t; node = n } = cc e in ap (λ (s : Schema). s.table) same

pub member-is : (schema : DirectedSchema) (position : ℕ) (r : Option SchemaRef) (result : Option DirectedSchema) → result ≡ option_map (with_direction schema.way) r
    → option_map schema_of r ≡ member_at (schema_of schema.schema) position → IfSome r (λ m. index_of m ≡ slice_get (schema_of schema.schema).node.members position)
    → IfSome result (IsMemberAt schema position)
member-is schema position None result e node place = subst (λ (o : Option DirectedSchema). IfSome o (IsMemberAt schema position)) (sym e) tt
member-is schema position (Some m) result e node place = subst (λ (o : Option DirectedSchema). IfSome o (IsMemberAt schema position)) (sym e) (record {
  at = member-in schema.way (schema_of schema.schema) position ∙ ap (option_map (directed_schema schema.way)) (sym node);
  table = table_of (schema_of schema.schema).table (slice_get (schema_of schema.schema).node.members position) (schema_of m) node;
  place = place;
})

-- its header

header_first : (h p q : Option (List ℕ)) (m l b : Bool) (name : List ℕ) → to_header name ≡ binding_at h p q m l b → h ≡ Some name
header_first (Some n) p q m l b name e = let same : name ≡ n = cc e in ap (λ (t : List ℕ). Some t) (sym same)
header_first None (Some p) q m l b name e = absurd (cc e)
header_first None None (Some q) m l b name e = absurd (cc e)
header_first None None None true l b name e = absurd (cc e)
header_first None None None false true b name e = absurd (cc e)
header_first None None None false false true name e = absurd (cc e)
header_first None None None false false false name e = absurd (cc e)

-- a member that stands in a header has the trait
pub bound-header : (m : DirectedSchema) (name : List ℕ) → to_header name ≡ binding_of (directed_of m) → (schema_of m.schema).node.traits.http_header ≡ Some name
bound-header m name e = let t = (directed_of m).node.traits in header_first t.http_header t.http_prefix_headers t.http_query t.http_query_params t.http_label t.http_payload name e

-- and one with the trait stands there
header-bound : (m : DirectedSchema) (name : List ℕ) → (schema_of m.schema).node.traits.http_header ≡ Some name → binding_of (directed_of m) ≡ to_header name
header-bound m name e = rw e refl

-- a member that stands elsewhere needs no name
pub own-elsewhere : (holds : ℕ → Type 0) (m : DirectedSchema) (b : Binding) → b ≡ binding_of (directed_of m) → ((name : List ℕ) → b ≡ to_header name → ⊥) → HasOwnName holds m.schema
own-elsewhere holds m b e not = λ place name i h. absurd (not name (e ∙ header-bound m name h))

pub own-map : (holds : ℕ → Type 0) (m : DirectedSchema) → takes_map (binding_of (directed_of m)) ≡ true → HasOwnName holds m.schema
own-map holds m e = λ place name i h. let q : false ≡ true = sym (ap takes_map (header-bound m name h)) ∙ e in absurd (cc q)

pub own-unplaced : (holds : ℕ → Type 0) (m : DirectedSchema) → is_placed_at (binding_of (directed_of m)) ≡ false → HasOwnName holds m.schema
own-unplaced holds m e = λ place name i h. let q : true ≡ false = sym (ap is_placed_at (header-bound m name h)) ∙ e in absurd (cc q)

-- what the member's own place has, the position has
pub named-at : (holds : ℕ → Type 0) (schema m : DirectedSchema) (position : ℕ) → IsMemberAt schema position m → HasOwnName holds m.schema → HasNameAt holds (directed_of schema) position
named-at holds schema m position is own = λ place name slot header.
    let t = (directed_of schema).table in
    let here : at_place t place ≡ Some (directed_of m) = ap (λ (o : Option ℕ). option_and_then (at_place t) o) (sym slot) ∙ is.at in
    let trait : (schema_of m.schema).node.traits.http_header ≡ Some name = ap (λ (o : Option Schema). option_and_then (λ (m : Schema). m.node.traits.http_header) o) (sym here) ∙ header in
    own place name (is.place ∙ slot) trait

-- a later state has what an earlier one had
pub seen-kept : (old new : ℕ → Type 0) (schema : Schema) (seen : List Bool) → ((place : ℕ) → old place → new place) → SeenHaveNames old schema seen → SeenHaveNames new schema seen
seen-kept old new schema seen more have = λ position marked place name slot header. more place (have position marked place name slot header)

-- one more member is written
pub seen-marked : (old new : ℕ → Type 0) (schema : Schema) (seen : List Bool) (position : ℕ) → ((place : ℕ) → old place → new place) → SeenHaveNames old schema seen → HasNameAt new schema position
    → SeenHaveNames new schema (slice_set seen position true)
seen-marked old new schema seen position more have here = λ p marked. go p (nat_eq p position) refl marked
  where
    go : (p : ℕ) (b : Bool) → nat_eq p position ≡ b → slice_index_or (slice_set seen position true) p false ≡ true → HasNameAt new schema p
    go p true e marked = subst (HasNameAt new schema) (sym (eqb-true p position e)) here
    go p false e marked = λ place name slot header. more place (have p (sym (get_or-set_other seen position p true false (eqb-false p position e)) ∙ marked) place name slot header)

-- none is written at first
pub none-seen : (holds : ℕ → Type 0) (schema : Schema) (n : ℕ) (seen : List Bool) → seen ≡ replicate n false → SeenHaveNames holds schema seen
none-seen holds schema n seen e = λ position marked. let q : false ≡ true = sym (go n position) ∙ ap (λ (s : List Bool). slice_index_or s position false) (sym e) ∙ marked in absurd (cc q)
  where
    go : (n p : ℕ) → slice_index_or (replicate n false) p false ≡ false
    go zero p = refl
    go (suc n) zero = refl
    go (suc n) (suc p) = go n p

-- the names of one write
pub names-one : (holds : ℕ → Type 0) (schema : Schema) (w : Write) (i : ℕ) (m : Schema) → finds schema w.label ≡ Some (i, m) → HasNameAt holds schema i → HaveNames holds schema (w ∷ [])
names-one holds schema w i m e here = rw (kept-at schema w i m e) (here, tt)

-- and of one more
pub names-more : (holds : ℕ → Type 0) (schema : Schema) (w : Write) (ws : List Write) → HaveNames holds schema (w ∷ []) → HaveNames holds schema ws → HaveNames holds schema (w ∷ ws)
names-more holds schema w ws one rest = go (resolved schema w) refl
  where
    go : (o : Option Resolved) → resolved schema w ≡ o → HaveNames holds schema (w ∷ ws)
    go None e = rw e rest
    go (Some r) e = rw e ((rw e at one).0, rest)

-- a later state has the names that an earlier one had
pub names-kept : (old new : ℕ → Type 0) (schema : Schema) (ws : List Write) → ((place : ℕ) → old place → new place) → HaveNames old schema ws → HaveNames new schema ws
names-kept old new schema ws more have = go (all_resolved schema ws) have
  where
    go : (rs : List Resolved) → AllByRecursion (λ (r : Resolved). HasNameAt old schema r.position) rs → AllByRecursion (λ (r : Resolved). HasNameAt new schema r.position) rs
    go [] have = tt
    go (r ∷ rs) have = ((λ place name slot header. more place (have.0 place name slot header)), go rs have.1)

-- the code's lists

pub names-step : (holds : ℕ → Type 0) (t : Table) (schema : Schema) (x : OneWrite) (rest more : List OneWrite) → rest ≡ x ∷ more
    → HaveNames holds schema (record { label = label_at t x.node.0; value = value_in t x.value } ∷ []) → HaveNames holds schema (list_of (listed t more)) → HaveNames holds schema (list_of (listed t rest))
names-step holds t schema x rest more steps one later =
    subst (λ (us : List OneWrite). HaveNames holds schema (list_of (listed t us))) (sym steps) (names-more holds schema (record { label = label_at t x.node.0; value = value_in t x.value }) (list_of (listed t more)) one later)

pub names-end : (holds : ℕ → Type 0) (t : Table) (schema : Schema) (rest : List OneWrite) → rest ≡ [] → HaveNames holds schema (list_of (listed t rest))
names-end holds t schema rest none = subst (λ (us : List OneWrite). HaveNames holds schema (list_of (listed t us))) (sym none) tt
