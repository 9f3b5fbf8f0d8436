-- The unbound members of an input or an output are written as one structure.
use Rattle.smithy_unambiguity.proofs.Common.{◌≡◌, refl, sym, ◌∙◌, ap, ℕ, Bool, true, false, not, cond, ◌&&◌, ◌==◌, List, [], ◌∷◌, map, filter, find, filter_map, Option, Some, None, option_map, option_and_then, unwrap_or, is_some, IsTrue, if◌then◌else◌, eq-eqb, AllByRecursion, last_or, cons_option, option_map_or, option_or, and_from, eqb-true, same_text, Schema, member_at, members_of, name_of, is_bound, is_well_made, Value, Write, Writes, no_writes, write, writes_of, label_of, are_writes_in_range, settled, settled_fields, last_named, field_of, is_shaped, are_fields_shaped, fits_at, has_distinct_fields, named_member, is_named, Resolved, all_resolved, is_of, IsCheckedInput, member_names, member_view, last_of, Protocol, OmitFlags, IsTyped, is_shaped_write, same_text_self, are_distinct-from_facts, Stands, false_from_ne_true, enumerate_from, ◌+◌, arith}
use Rattle.std.specs.Cmp.Lexicographic.{same_text as same_from_test}
use Rattle.smithy_ids.specs.declared.shape_type.ShapeType.TheVariants as kind
use Rattle.smithy_serde.specs.Values as value
use Rattle.smithy_unambiguity.proofs.Conforming.{resolved_at}
use Rattle.smithy_unambiguity.proofs.Lists.{all_apply, both_hold, all_passing, all_placed}
use Rattle.smithy_unambiguity.proofs.Members.{member_in_place, names_apart}
use Rattle.smithy_unambiguity.proofs.Positions.{HasOwnNames, own_names, members_by_position, apart_at}
use Rattle.smithy_unambiguity.proofs.Singles.{find_alone}
use Rattle.smithy_unambiguity.proofs.Settled.{fields_range, fields_keep_shape, last_field}
use Rattle.smithy_unambiguity.proofs.WellMadeNodes.{well_made_stands}
use Rattle.smithy_serde.specs.ValueRead.{write_by}

-- The last of the writes to a position.

later_last : (x : Resolved) (xs : List Resolved) → last_or (Some x) xs ≡ option_or (last_or None xs) (Some x)
later_last x [] = refl
later_last x (y ∷ xs) = later_last y xs ∙ go (last_or None xs) ∙ sym (ap (λ o. option_or o (Some x)) (later_last y xs))
  where
    go : (o : Option Resolved) → option_or o (Some y) ≡ option_or (option_or o (Some y)) (Some x)
    go None = refl
    go (Some z) = refl

-- by recursion over the writes
last_more : (i : ℕ) (r : Resolved) (rs : List Resolved) → last_of i (r ∷ rs) ≡ option_or (last_of i rs) (if is_of i r then Some r else None)
last_more i r rs = go (r.position == i)
  where
    nothing : (o : Option Resolved) → o ≡ option_or o None
    nothing None = refl
    nothing (Some x) = refl

    go : (t : Bool) → last_or None (cond t (r ∷ filter (is_of i) rs) (filter (is_of i) rs)) ≡ option_or (last_or None (filter (is_of i) rs)) (if t then Some r else None)
    go true = later_last r (filter (is_of i) rs)
    go false = nothing (last_or None (filter (is_of i) rs))

-- A write to a member that no binding takes out of the body: its member stands at its position, and its value is shaped. What
-- counts as bound is the direction's.
pub record IsBodied (bound : Schema → Bool) (schema : Schema) (r : Resolved) : Type 0 where
  pub at : member_at schema r.position ≡ Some r.member
  pub shaped : bound r.member ≡ false → is_shaped (Some r.member) r.value ≡ true

pub are_bodied : (bound : Schema → Bool) (schema : Schema) (rs : List Resolved) → AllByRecursion (λ r. member_at schema r.position ≡ Some r.member) rs → AllByRecursion (λ r. IsTrue (is_shaped_write r)) (filter (λ r. not (bound r.member)) rs) → AllByRecursion (IsBodied bound schema) rs
are_bodied bound schema rs at shaped =
    all_apply (λ r. (member_at schema r.position ≡ Some r.member) × (not (bound r.member) ≡ true → is_shaped_write r ≡ true)) (IsBodied bound schema) rs
    (λ r both. record { at = both.0; shaped = λ free. both.1 (ap not free) })
    (both_hold (λ r. member_at schema r.position ≡ Some r.member) (λ r. not (bound r.member) ≡ true → is_shaped_write r ≡ true) rs at (all_passing (λ r. is_shaped_write r ≡ true) (λ r. not (bound r.member)) rs shaped))

pub typed_bodied : (protocol : Protocol) (schema : Schema) (endpoint : List ℕ) (omit : OmitFlags) (ws : List Write) → IsTyped protocol schema endpoint omit ws → AllByRecursion (IsBodied is_bound schema) (all_resolved schema ws)
typed_bodied protocol schema endpoint omit ws typed = are_bodied is_bound schema (all_resolved schema ws) (resolved_at schema ws) typed.unbound_shaped

-- The structure has the members of the schema.

abbrev pub body_node : Schema → Schema
body_node schema = record schema { node = record schema.node { kind = kind.Structure; target = None } }

pub body_node_stands : (schema : Schema) → is_well_made schema ≡ true → Stands (body_node schema)
body_node_stands schema well_made = let stands = well_made_stands schema well_made in record { table = stands.table; members = stands.members }

-- a member with this name
named_is : (name : List ℕ) (o : Option (List ℕ)) → option_map_or (same_text name) o false ≡ true → o ≡ Some name
named_is name None e = absurd (cc e)
named_is name (Some n) e = ap Some (sym (same_from_test name n (sym e)))

pub body_member : (schema : Schema) → HasOwnNames schema → (i : ℕ) (m : Schema) (name : List ℕ) → member_at schema i ≡ Some m → m.node.member_name ≡ Some name → named_member (Some (body_node schema)) (Some name) ≡ Some m
body_member schema named i m name at is =
    find_alone (is_named (Some name)) (members_of schema) i m (members_by_position schema named.cited i ∙ at) (ap (λ o. option_map_or (same_text name) o false) is ∙ same_text_self name)
    (λ j n at_j is_n. apart_at (λ k. k.node.member_name) (members_of schema) named.names j i n m name at_j (members_by_position schema named.cited i ∙ at) (named_is name n.node.member_name is_n) is)

-- The writes of the structure.

abbrev pub bodied_writes : (Schema → Bool) → List Resolved → Writes
bodied_writes bound rs = writes_of (map (λ (r : Resolved). record { label = label_of r.member; value = r.value }) (filter (λ (r : Resolved). not (bound r.member)) rs))

-- the member of a write, by its name
own_node : (schema : Schema) → HasOwnNames schema → is_well_made schema ≡ true → (r : Resolved) → member_at schema r.position ≡ Some r.member → named_member (Some (body_node schema)) r.member.node.member_name ≡ Some r.member
own_node schema named well_made r at =
    let member = member_in_place schema r.position r.member well_made at in
    ap (named_member (Some (body_node schema))) member.name ∙ body_member schema named r.position r.member member.own_name at member.name

fields_follow : (bound : Schema → Bool) (schema : Schema) → HasOwnNames schema → is_well_made schema ≡ true → (rs : List Resolved) → AllByRecursion (IsBodied bound schema) rs → are_fields_shaped (Some (body_node schema)) (bodied_writes bound rs) ≡ true
fields_follow bound schema named well_made [] all = refl
fields_follow bound schema named well_made (r ∷ rs) all = go (bound r.member) refl (fields_follow bound schema named well_made rs all.1)
  where
    go : (b : Bool) → bound r.member ≡ b → are_fields_shaped (Some (body_node schema)) (bodied_writes bound rs) ≡ true
        → are_fields_shaped (Some (body_node schema)) (writes_of (map (λ (r : Resolved). record { label = label_of r.member; value = r.value }) (cond (not b) (r ∷ filter (λ (r : Resolved). not (bound r.member)) rs) (filter (λ (r : Resolved). not (bound r.member)) rs)))) ≡ true
    go true e rest = rest
    go false e rest =
        ap (λ o. is_some o && is_shaped o r.value && are_fields_shaped (Some (body_node schema)) (bodied_writes bound rs)) (own_node schema named well_made r all.0.at)
        ∙ and_from (is_shaped (Some r.member) r.value) (are_fields_shaped (Some (body_node schema)) (bodied_writes bound rs)) (all.0.shaped e) rest

-- so its value follows the node
pub body_follows : (bound : Schema → Bool) (schema : Schema) → HasOwnNames schema → is_well_made schema ≡ true → (rs : List Resolved) → AllByRecursion (IsBodied bound schema) rs → is_shaped (Some (body_node schema)) (value.structure (bodied_writes bound rs)) ≡ true
body_follows bound schema named well_made rs all =
    let shaped = fields_follow bound schema named well_made rs all in
    let here : Option Schema = Some (body_node schema) in
    let v : Value = value.structure (bodied_writes bound rs) in
    and_from (fits_at here v && has_distinct_fields here) (are_fields_shaped here (bodied_writes bound rs))
    (and_from (fits_at here v) (has_distinct_fields here) (and_from (are_writes_in_range (bodied_writes bound rs)) true (fields_range here (bodied_writes bound rs) shaped) refl) (are_distinct-from_facts (member_names schema) named.names)) shaped

-- The last value of a member.

abbrev pub body_fields : (Schema → Bool) → Schema → List Resolved → List (List ℕ × Value)
body_fields bound schema rs = settled_fields (Some (body_node schema)) (bodied_writes bound rs)

-- what the structure has of a member, by its last write
abbrev pub free_view : (Schema → Bool) → ℕ → Schema → List Resolved → Option Value
free_view bound i m rs = if bound m then None else option_map (λ (r : Resolved). settled (Some m) r.value) (last_of i rs)

pub body_field : (bound : Schema → Bool) (schema : Schema) → HasOwnNames schema → is_well_made schema ≡ true → (i : ℕ) (m : Schema) (name : List ℕ) → member_at schema i ≡ Some m → m.node.member_name ≡ Some name
    → (rs : List Resolved) → AllByRecursion (IsBodied bound schema) rs → last_named name (body_fields bound schema rs) ≡ free_view bound i m rs
body_field bound schema named well_made i m name at is [] all = go (bound m)
  where
    go : (b : Bool) → ◌≡◌ {A = Option Value} None (if b then None else None)
    go true = refl
    go false = refl
body_field bound schema named well_made i m name at is (r ∷ rs) all =
    go (bound r.member) refl (body_field bound schema named well_made i m name at is rs all.1)
    ∙ ap (λ o. if bound m then None else option_map (λ (r : Resolved). settled (Some m) r.value) o) (sym (last_more i r rs))
  where
    same_member : (r.position == i) ≡ true → r.member ≡ m
    same_member e = let members : Some r.member ≡ Some m = sym all.0.at ∙ ap (member_at schema) (eqb-true r.position i e) ∙ at in cc members

    own : (t : Bool) → (r.position == i) ≡ t
        → (if same_text (name_of r.member) name then Some (settled (named_member (Some (body_node schema)) r.member.node.member_name) r.value) else None) ≡ (if t then Some (settled (Some m) r.value) else None)
    own true f =
        ap (λ (o : Option (List ℕ)). if same_text (unwrap_or o []) name then Some (settled (named_member (Some (body_node schema)) o) r.value) else None) (ap (λ (k : Schema). k.node.member_name) (same_member f) ∙ is)
        ∙ ap (λ t. if t then Some (settled (named_member (Some (body_node schema)) (Some name)) r.value) else None) (same_text_self name)
        ∙ ap (λ o. Some (settled o r.value)) (body_member schema named i m name at is)
    own false f =
        ap (λ t. if t then Some (settled (named_member (Some (body_node schema)) r.member.node.member_name) r.value) else None)
        (false_from_ne_true (same_text (name_of r.member) name) (λ e.
        let names : name_of r.member ≡ name_of m = same_from_test (name_of r.member) name (sym e) ∙ sym (ap (λ (o : Option (List ℕ)). unwrap_or o []) is) in
        let z : true ≡ false = sym (eq-eqb r.position i (names_apart schema named well_made r.position i r.member m all.0.at at names)) ∙ f in
        cc z))

    skipped : (c t : Bool) (o : Option Resolved) → (t ≡ true → c ≡ true)
        → (if c then None else option_map (λ (r : Resolved). settled (Some m) r.value) o) ≡ (if c then None else option_map (λ (r : Resolved). settled (Some m) r.value) (option_or o (if t then Some r else None)))
    skipped true t o h = refl
    skipped false true o h = absurd (cc (h refl))
    skipped false false None h = refl
    skipped false false (Some x) h = refl

    joined : (c t : Bool) (o : Option Resolved) → (t ≡ true → c ≡ false)
        → option_or (if c then None else option_map (λ (r : Resolved). settled (Some m) r.value) o) (if t then Some (settled (Some m) r.value) else None)
        ≡ (if c then None else option_map (λ (r : Resolved). settled (Some m) r.value) (option_or o (if t then Some r else None)))
    joined true true o h = absurd (cc (h refl))
    joined true false o h = refl
    joined false true None h = refl
    joined false true (Some x) h = refl
    joined false false None h = refl
    joined false false (Some x) h = refl

    go : (b : Bool) → bound r.member ≡ b → last_named name (body_fields bound schema rs) ≡ free_view bound i m rs
        → last_named name (settled_fields (Some (body_node schema)) (writes_of (map (λ (r : Resolved). record { label = label_of r.member; value = r.value }) (cond (not b) (r ∷ filter (λ (r : Resolved). not (bound r.member)) rs) (filter (λ (r : Resolved). not (bound r.member)) rs)))))
        ≡ (if bound m then None else option_map (λ (r : Resolved). settled (Some m) r.value) (option_or (last_of i rs) (if is_of i r then Some r else None)))
    go true e rest = rest ∙ skipped (bound m) (r.position == i) (last_of i rs) (λ f. sym (ap bound (same_member f)) ∙ e)
    go false e rest =
        (λ j. option_or (rest j) (own (r.position == i) refl j))
        ∙ joined (bound m) (r.position == i) (last_of i rs) (λ f. sym (ap bound (same_member f)) ∙ e)

-- So, by positions, the structure has of each member that.

pub fields_placed : (bound : Schema → Bool) (schema : Schema) → HasOwnNames schema → is_well_made schema ≡ true → (rs : List Resolved) → AllByRecursion (IsBodied bound schema) rs
    → AllByRecursion (λ p. field_of (body_fields bound schema rs) p.1 ≡ option_map (write_by p.1) (free_view bound p.0 p.1 rs)) (enumerate_from 0 (members_of schema))
fields_placed bound schema named well_made rs all =
    all_placed (λ p. field_of (body_fields bound schema rs) p.1 ≡ option_map (write_by p.1) (free_view bound p.0 p.1 rs)) 0 (members_of schema)
    (λ j m at_j.
    let none_more : 0 + j ≡ j = omega arith in
    let at : member_at schema (0 + j) ≡ Some m = ap (member_at schema) none_more ∙ sym (members_by_position schema named.cited j) ∙ at_j in
    let member = member_in_place schema (0 + j) m well_made at in
    ap (λ o. option_map (write_by m) (option_and_then (λ n. last_named n (body_fields bound schema rs)) o)) member.name
    ∙ ap (option_map (write_by m)) (body_field bound schema named well_made (0 + j) m member.own_name at member.name rs all))

-- of a member that is not bound nothing is asked twice
pub unless_bound : (b : Bool) (x o : Option Value) → (if b then None else o) ≡ (if b then None else if b then x else o)
unless_bound true x o = refl
unless_bound false x o = refl

-- Structures of one normal form have one last value of each member.

abbrev value_at : List ℕ → Writes → Option Value
value_at name no_writes = None
value_at name (write l v ws) = cond (option_map_or (same_text name) l.member_name false) (Some v) (value_at name ws)

value_there : (name : List ℕ) (fields : List (List ℕ × Value)) (ms : List Schema)
    → value_at name (writes_of (filter_map (field_of fields) ms)) ≡ (if is_some (find (is_named (Some name)) ms) then last_named name fields else None)
value_there name fields [] = refl
value_there name fields (m ∷ ms) = go m.node.member_name refl (value_there name fields ms)
  where
    go : (o : Option (List ℕ)) → m.node.member_name ≡ o → value_at name (writes_of (filter_map (field_of fields) ms)) ≡ (if is_some (find (is_named (Some name)) ms) then last_named name fields else None)
        → value_at name (writes_of (cons_option (option_map (λ v. record { label = label_of m; value = v }) (option_and_then (λ n. last_named n fields) o)) (filter_map (field_of fields) ms)))
        ≡ (if is_some (cond (option_map_or (same_text name) o false) (Some m) (find (is_named (Some name)) ms)) then last_named name fields else None)
    go None is rest = rest
    go (Some n) is rest = by (last_named n fields) (same_text name n) refl refl
      where
        absent : (t : Bool) (o : Option Value) → o ≡ None → (if t then o else None) ≡ o
        absent true o e = refl
        absent false o e = sym e

        by : (x : Option Value) (t : Bool) → last_named n fields ≡ x → same_text name n ≡ t
            → value_at name (writes_of (cons_option (option_map (λ v. record { label = label_of m; value = v }) x) (filter_map (field_of fields) ms)))
            ≡ (if is_some (cond t (Some m) (find (is_named (Some name)) ms)) then last_named name fields else None)
        by (Some v) true ex et = rw (is, et) (sym ex ∙ ap (λ k. last_named k fields) (sym (same_from_test name n (sym et))))
        by (Some v) false ex et = rw (is, et) rest
        by None true ex et = rest ∙ absent (is_some (find (is_named (Some name)) ms)) (last_named name fields) (ap (λ k. last_named k fields) (same_from_test name n (sym et)) ∙ ex)
        by None false ex et = rest

abbrev writes_in : Value → Writes
writes_in (value.structure ws) = ws
writes_in _ = no_writes

pub body_fields_told : (schema : Schema) → HasOwnNames schema → (i : ℕ) (m : Schema) (name : List ℕ) → member_at schema i ≡ Some m → m.node.member_name ≡ Some name → (rs qs : List Resolved)
    → settled (Some (body_node schema)) (value.structure (bodied_writes is_bound rs)) ≡ settled (Some (body_node schema)) (value.structure (bodied_writes is_bound qs)) → last_named name (body_fields is_bound schema rs) ≡ last_named name (body_fields is_bound schema qs)
body_fields_told schema named i m name at is rs qs same =
    sym (shown rs) ∙ ap (λ v. value_at name (writes_in v)) same ∙ shown qs
  where
    shown : (us : List Resolved) → value_at name (writes_in (settled (Some (body_node schema)) (value.structure (bodied_writes is_bound us)))) ≡ last_named name (body_fields is_bound schema us)
    shown us =
        value_there name (body_fields is_bound schema us) (members_of schema)
        ∙ ap (λ (o : Option Schema). if is_some o then last_named name (body_fields is_bound schema us) else None) (body_member schema named i m name at is)

-- what the normal form of an input has of an unbound member
pub free_member_view : (schema : Schema) (ws : List Write) (i : ℕ) (m : Schema) → is_bound m ≡ false → member_view schema ws i m ≡ free_view is_bound i m (all_resolved schema ws)
free_member_view schema ws i m free = rw free refl

-- and it is shaped
pub free_view_shaped : (schema : Schema) (ws : List Write) (i : ℕ) (m : Schema) (u : Value) → IsCheckedInput schema → is_well_made schema ≡ true → AllByRecursion (IsBodied is_bound schema) (all_resolved schema ws) → member_at schema i ≡ Some m → is_bound m ≡ false
    → member_view schema ws i m ≡ Some u → is_shaped (Some m) u ≡ true
free_view_shaped schema ws i m u checked well_made bodied at free e =
    let rs = all_resolved schema ws in
    let named = own_names schema checked in
    let here : Option Schema = Some (body_node schema) in
    let member = member_in_place schema i m well_made at in
    let has : last_named member.own_name (body_fields is_bound schema rs) ≡ Some u = body_field is_bound schema named well_made i m member.own_name at member.name rs bodied ∙ sym (free_member_view schema ws i m free) ∙ e in
    let field = last_field here member.own_name (body_fields is_bound schema rs) u (fields_keep_shape here (bodied_writes is_bound rs) (fields_follow is_bound schema named well_made rs bodied)) has in
    ap (λ o. is_shaped o u) (sym (body_member schema named i m member.own_name at member.name)) ∙ field.shaped
