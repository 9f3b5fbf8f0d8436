-- The members of a structure, a position at a time.
use Rattle.smithy_wire.proofs.Common.{◌≡◌, refl, sym, ap, ◌∙◌, ℕ, zero, suc, ◌+◌, ◌<◌, ◌≤◌, arith, Bool, true, false, cond, ◌&&◌, if◌then◌else◌, List, [], ◌∷◌, ◌++◌, length, drop, find, filter, flat_map, Option, Some, None, option_map, option_and_then, append-nil}
use Rattle.std.proofs.Math.ListN.{drop_of_length-le}
use Rattle.std.specs.List.{cons_option, filter_map, slice_get}
use Rattle.std.proofs.Common.{append_assoc}
use Rattle.std.specs.List.{list_all}
use Rattle.std.specs.Option.{option_flatten, option_or, option_map_or}
use Rattle.smithy_types.specs.Texts.{same_text}
use Rattle.smithy_schema.specs.Nodes.{Node, Schema, Table, at_place, member_at}
use Rattle.smithy_wire.specs.declared.side.Side.{Side}
use Rattle.smithy_wire.specs.WireNames.{json_name, if_field, is_field, is_found, names_of, parts_stand}
use Rattle.smithy_wire.specs.views.ShownNames.{is_found_at, names_at, place_stands, table_stands_from}
use Rattle.smithy_wire.specs.Forms.{is_coded_payload}
use Rattle.smithy_wire.specs.views.MemberSteps.{members_from, field_by_index, fields_from, if_in_json, json_from, coded_payload_in, payload_from}

-- the one at a position before those behind it, where there is one
abbrev pub before : Option Schema → List Schema → List Schema
before None ms = ms
before (Some m) ms = m ∷ ms

all_before : (p : Schema → Bool) (o : Option Schema) (ms : List Schema) → list_all p (before o ms) ≡ (option_map_or p o true && list_all p ms)
all_before p None ms = refl
all_before p (Some m) ms = refl

-- the one at the position, if there is one, and those behind it
pub members_from-more : (schema : Schema) (i : ℕ) → members_from schema i ≡ before (member_at schema i) (members_from schema (i + 1))
members_from-more schema i = go schema.node.members i
  where
    first : (o : Option Schema) (ms : List Schema) → cons_option o ms ≡ before o ms
    first None ms = refl
    first (Some m) ms = refl

    go : (ps : List ℕ) (i : ℕ)
        → filter_map (at_place schema.table) (drop i ps) ≡ before (option_and_then (at_place schema.table) (slice_get ps i)) (filter_map (at_place schema.table) (drop (i + 1) ps))
    go [] zero = refl
    go [] (suc i) = let next : suc i + 1 ≡ suc (i + 1) = omega arith in rw next refl
    go (p ∷ ps) zero = first (at_place schema.table p) (filter_map (at_place schema.table) ps)
    go (p ∷ ps) (suc i) = let next : suc i + 1 ≡ suc (i + 1) = omega arith in rw next (go ps i)

pub members_from-end : (schema : Schema) (i : ℕ) → length schema.node.members ≤ i → members_from schema i ≡ []
members_from-end schema i past = ap (filter_map (at_place schema.table)) (drop_of_length-le schema.node.members past)

-- ---- of each member, and the fields

pub all_from-more : (p : Schema → Bool) (schema : Schema) (i : ℕ) → list_all p (members_from schema i) ≡ (option_map_or p (member_at schema i) true && list_all p (members_from schema (i + 1)))
all_from-more p schema i = ap (list_all p) (members_from-more schema i) ∙ all_before p (member_at schema i) (members_from schema (i + 1))

pub all_from-end : (p : Schema → Bool) (schema : Schema) (i : ℕ) → length schema.node.members ≤ i → list_all p (members_from schema i) ≡ true
all_from-end p schema i past = ap (list_all p) (members_from-end schema i past)

fields_before : (side : Option Side) (o : Option Schema) (ms : List Schema)
    → filter (is_field side) (before o ms) ≡ before (option_map_or (if_field side) o None) (filter (is_field side) ms)
fields_before side None ms = refl
fields_before side (Some m) ms = go (is_field side m)
  where
    go : (b : Bool) → cond b (m ∷ filter (is_field side) ms) (filter (is_field side) ms) ≡ before (if b then Some m else None) (filter (is_field side) ms)
    go true = refl
    go false = refl

fields_from-more : (side : Option Side) (schema : Schema) (i : ℕ) → fields_from side schema i ≡ before (field_by_index side schema i) (fields_from side schema (i + 1))
fields_from-more side schema i = ap (filter (is_field side)) (members_from-more schema i) ∙ fields_before side (member_at schema i) (members_from schema (i + 1))

fields_from-end : (side : Option Side) (schema : Schema) (i : ℕ) → length schema.node.members ≤ i → fields_from side schema i ≡ []
fields_from-end side schema i past = ap (filter (is_field side)) (members_from-end schema i past)

pub found_from-more : (side : Option Side) (schema : Schema) (i : ℕ)
    → list_all (is_found side schema) (fields_from side schema i) ≡ (is_found_at side schema i && list_all (is_found side schema) (fields_from side schema (i + 1)))
found_from-more side schema i =
    ap (list_all (is_found side schema)) (fields_from-more side schema i) ∙ all_before (is_found side schema) (field_by_index side schema i) (fields_from side schema (i + 1))

pub found_from-end : (side : Option Side) (schema : Schema) (i : ℕ) → length schema.node.members ≤ i → list_all (is_found side schema) (fields_from side schema i) ≡ true
found_from-end side schema i past = ap (list_all (is_found side schema)) (fields_from-end side schema i past)

-- ---- the first field of a name in JSON

json_step : (side : Option Side) (name : List ℕ) (o : Option Schema) (ms : List Schema)
    → find (λ m. same_text (json_name m) name) (filter (is_field side) (before o ms)) ≡ option_or (if_in_json side name o) (find (λ m. same_text (json_name m) name) (filter (is_field side) ms))
json_step side name None ms = refl
json_step side name (Some m) ms = go (is_field side m) (same_text (json_name m) name) refl
  where
    rest : Option Schema
    rest = find (λ n. same_text (json_name n) name) (filter (is_field side) ms)

    go : (a b : Bool) → same_text (json_name m) name ≡ b → find (λ n. same_text (json_name n) name) (cond a (m ∷ filter (is_field side) ms) (filter (is_field side) ms)) ≡ option_or (if a && b then Some m else None) rest
    go true true is = ap (λ b. cond b (Some m) rest) is
    go true false is = ap (λ b. cond b (Some m) rest) is
    go false b is = refl

pub json_from-more : (side : Option Side) (name : List ℕ) (schema : Schema) (i : ℕ)
    → json_from side name schema i ≡ option_or (if_in_json side name (member_at schema i)) (json_from side name schema (i + 1))
json_from-more side name schema i =
    ap (λ ms. find (λ m. same_text (json_name m) name) (filter (is_field side) ms)) (members_from-more schema i) ∙ json_step side name (member_at schema i) (members_from schema (i + 1))

pub json_from-end : (side : Option Side) (name : List ℕ) (schema : Schema) (i : ℕ) → length schema.node.members ≤ i → json_from side name schema i ≡ None
json_from-end side name schema i past = ap (λ ms. find (λ m. same_text (json_name m) name) (filter (is_field side) ms)) (members_from-end schema i past)

-- ---- the names of the fields

flat_before : (o : Option Schema) (ms : List Schema) → flat_map names_of (before o ms) ≡ option_map_or names_of o [] ++ flat_map names_of ms
flat_before None ms = refl
flat_before (Some m) ms = refl

names_from-more : (side : Option Side) (schema : Schema) (i : ℕ) → flat_map names_of (fields_from side schema i) ≡ names_at side schema i ++ flat_map names_of (fields_from side schema (i + 1))
names_from-more side schema i = ap (flat_map names_of) (fields_from-more side schema i) ∙ flat_before (field_by_index side schema i) (fields_from side schema (i + 1))

pub names_pushed : (side : Option Side) (old new : List (List ℕ)) (schema : Schema) (i : ℕ) (all : List (List ℕ)) → new ≡ old ++ names_at side schema i
    → old ++ flat_map names_of (fields_from side schema i) ≡ all → new ++ flat_map names_of (fields_from side schema (i + 1)) ≡ all
names_pushed side old new schema i all is h =
    ap (λ ns. ns ++ flat_map names_of (fields_from side schema (i + 1))) is ∙ append_assoc old (names_at side schema i) (flat_map names_of (fields_from side schema (i + 1)))
    ∙ ap (λ ns. old ++ ns) (sym (names_from-more side schema i)) ∙ h

pub names_end : (side : Option Side) (names : List (List ℕ)) (schema : Schema) (i : ℕ) (all : List (List ℕ)) → length schema.node.members ≤ i
    → names ++ flat_map names_of (fields_from side schema i) ≡ all → names ≡ all
names_end side names schema i all past h = sym (append-nil names) ∙ ap (λ ms. names ++ flat_map names_of ms) (sym (fields_from-end side schema i past)) ∙ h

-- ---- the nodes of a table

drop_one : {A : Type 0} (xs : List A) (i : ℕ) → i < length xs → (x : A) × (slice_get xs i ≡ Some x) × (drop i xs ≡ x ∷ drop (i + 1) xs)
drop_one [] i within = absurd (omega arith)
drop_one (x ∷ xs) zero within = (x, refl, refl)
drop_one (x ∷ xs) (suc i) within =
    let next : suc i + 1 ≡ suc (i + 1) = omega arith in
    let rest = drop_one xs i (omega arith) in
    (rest.0, rest.1, rest.2 ∙ ap (λ n. rest.0 ∷ drop n (x ∷ xs)) (sym next))

pub table_from-more : (t : Table) (i : ℕ) → i < length t → table_stands_from t i ≡ (place_stands t i && table_stands_from t (i + 1))
table_from-more t i within =
    let here = drop_one t i within in
    ap (list_all (λ place. option_map_or (λ node. parts_stand record { table = t; node = node }) place true)) here.2
    ∙ ap (λ b. b && table_stands_from t (i + 1)) (one here.0 ∙ ap (λ o. option_map_or parts_stand (option_map {U = Schema} (λ n. record { table = t; node = n }) (option_flatten o)) true) (sym here.1))
  where
    one : (place : Option Node) → option_map_or (λ node. parts_stand record { table = t; node = node }) place true
        ≡ option_map_or parts_stand (option_map {U = Schema} (λ n. record { table = t; node = n }) (option_flatten (Some place))) true
    one None = refl
    one (Some n) = refl

pub table_end : (t : Table) (i : ℕ) → length t ≤ i → table_stands_from t i ≡ true
table_end t i past = ap (list_all (λ place. option_map_or (λ node. parts_stand record { table = t; node = node }) place true)) (drop_of_length-le t past)

-- ---- the first payload that a codec writes

payload_step : (o : Option Schema) (ms : List Schema) → find is_coded_payload (before o ms) ≡ option_or (option_map_or (λ m. if is_coded_payload m then Some m else None) o None) (find is_coded_payload ms)
payload_step None ms = refl
payload_step (Some m) ms = go (is_coded_payload m)
  where
    go : (b : Bool) → cond b (Some m) (find is_coded_payload ms) ≡ option_or (if b then Some m else None) (find is_coded_payload ms)
    go true = refl
    go false = refl

pub payload_from-more : (schema : Schema) (i : ℕ) → payload_from schema i ≡ option_or (coded_payload_in schema i) (payload_from schema (i + 1))
payload_from-more schema i = ap (find is_coded_payload) (members_from-more schema i) ∙ payload_step (member_at schema i) (members_from schema (i + 1))

pub payload_from-end : (schema : Schema) (i : ℕ) → length schema.node.members ≤ i → payload_from schema i ≡ None
payload_from-end schema i past = ap (find is_coded_payload) (members_from-end schema i past)
