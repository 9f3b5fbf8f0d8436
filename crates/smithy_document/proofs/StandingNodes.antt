-- Nodes that stand in a table, and their members.
use Rattle.std.proofs.Common.{unwrap_or}
use Rattle.std.specs.Prelude.{length}
use Rattle.smithy_document.proofs.Common.{◌≡◌, refl, sym, ap, ◌∙◌, ℕ, suc, ◌+◌, ◌==◌, arith, Bool, true, false, cond, not, List, [], ◌∷◌, find, filter_map, Option, Some, None, option_map, option_and_then, is_some, slice_get, nat_lt, cons_option, position_or_len, option_map_or, and_parts, eqb-true, ltb-false, slice_get_past, Table, Schema, node_at, at_place, cited, shape, member_at, member_named, has_name, is_named, Stands}
use Rattle.smithy_schema.specs.Nodes.{Node, members_of as nodes_of}
use Rattle.smithy_schema.specs.Defining.{IsSound, is_member}
use Rattle.smithy_document.proofs.FieldOrder.{StandFrom}

-- a node stands there
abbrev pub Standing : Option Schema → Type 0
Standing None = ⊥
Standing (Some n) = Stands n

stands_at : (t : Table) (place : ℕ) → IsSound t → is_some (at_place t place) ≡ true → Standing (at_place t place)
stands_at t place sound there = go (node_at t place) refl there
  where
    go : (o : Option Node) → node_at t place ≡ o → is_some (option_map {U = Schema} (λ n. record { table = t; node = n }) o) ≡ true → Standing (option_map (λ n. record { table = t; node = n }) o)
    go None is h = absurd (cc h)
    go (Some n) is h = record { table = sound; members = λ position member at. sound.members place n is position member at }

pub stands_cited : (n : Schema) (place : Option ℕ) → IsSound n.table → is_some (cited n place) ≡ true → Standing (cited n place)
stands_cited n None sound there = absurd (cc there)
stands_cited n (Some p) sound there = stands_at n.table p sound there

pub stands_shape : (n : Schema) → Stands n → Stands (shape n)
stands_shape n stands = go (cited n n.node.target) (stands_cited n n.node.target stands.table)
  where
    go : (o : Option Schema) → (is_some o ≡ true → Standing o) → Stands (unwrap_or o n)
    go None h = stands
    go (Some m) h = h refl

-- the members of a schema that stands, one after another
in_turn : (t : Table) (places : List ℕ) (i : ℕ) → ((j place : ℕ) → slice_get places j ≡ Some place → is_member (node_at t place) (i + j) ≡ true) → StandFrom i (filter_map (at_place t) places)
in_turn t [] i each = tt
in_turn t (p ∷ places) i each =
    go (node_at t p) (each 0 p refl) (in_turn t places (suc i) (λ j place at. let next : suc i + j ≡ i + suc j = omega arith in ap (is_member (node_at t place)) next ∙ each (suc j) place at))
  where
    index_is : (o : Option ℕ) → option_map_or (λ k. k == (i + 0)) o false ≡ true → o ≡ Some i
    index_is None e = absurd (cc e)
    index_is (Some k) e = let same : k ≡ i + 0 = eqb-true k (i + 0) e in let zero_more : i + 0 ≡ i = omega arith in ap Some (same ∙ zero_more)

    go : (o : Option Node) → is_member o (i + 0) ≡ true → StandFrom (suc i) (filter_map (at_place t) places) → StandFrom i (cons_option (option_map (λ n. record { table = t; node = n }) o) (filter_map (at_place t) places))
    go None e rest = absurd (cc e)
    go (Some n) e rest = (index_is n.member_index (and_parts (option_map_or (λ k. k == (i + 0)) n.member_index false) (is_some n.member_name) e).0, rest)

pub members_in_turn : (n : Schema) → Stands n → StandFrom 0 (nodes_of n)
members_in_turn n stands = in_turn n.table n.node.members 0 (λ j place at. let none_more : 0 + j ≡ j = omega arith in ap (is_member (node_at n.table place)) none_more ∙ stands.members j place at)

-- a member of a name stands, where there is one
pub found_stands : (t : Table) (name : Option (List ℕ)) (places : List ℕ) → IsSound t → is_some (find (is_named name) (filter_map (at_place t) places)) ≡ true → Standing (find (is_named name) (filter_map (at_place t) places))
found_stands t name [] sound there = absurd (cc there)
found_stands t name (p ∷ places) sound there = go (at_place t p) (stands_at t p sound) there (found_stands t name places sound)
  where
    by : (m : Schema) (b : Bool) (later : Option Schema) → Stands m → is_some (cond b (Some m) later) ≡ true → (is_some later ≡ true → Standing later) → Standing (cond b (Some m) later)
    by m true later stands h rest = stands
    by m false later stands h rest = rest h

    go : (o : Option Schema) → (is_some o ≡ true → Standing o) → is_some (find (is_named name) (cons_option o (filter_map (at_place t) places))) ≡ true
        → (is_some (find (is_named name) (filter_map (at_place t) places)) ≡ true → Standing (find (is_named name) (filter_map (at_place t) places)))
        → Standing (find (is_named name) (cons_option o (filter_map (at_place t) places)))
    go None stands h rest = rest h
    go (Some m) stands h rest = by m (is_named name m) (find (is_named name) (filter_map (at_place t) places)) (stands refl) h rest

-- the member of a name is the first one at the places
named_at : (t : Table) (name : List ℕ) (places : List ℕ)
    → option_and_then (at_place t) (slice_get places (position_or_len (λ place. option_map_or (has_name name) (at_place t place) false) places)) ≡ find (is_named (Some name)) (filter_map (at_place t) places)
named_at t name [] = refl
named_at t name (p ∷ places) = go (at_place t p) refl (ap (λ i. option_and_then (at_place t) (slice_get (p ∷ places) i)) one_more ∙ named_at t name places)
  where
    past : ℕ
    past = position_or_len (λ place. option_map_or (has_name name) (at_place t place) false) places

    one_more : 1 + past ≡ suc past
    one_more = omega arith

    by : (m : Schema) (b : Bool) (later : Option Schema) → at_place t p ≡ Some m → option_and_then (at_place t) (slice_get (p ∷ places) (1 + past)) ≡ later
        → option_and_then (at_place t) (slice_get (p ∷ places) (cond (not b) (1 + past) 0)) ≡ cond b (Some m) later
    by m true later is rest = is
    by m false later is rest = rest

    go : (o : Option Schema) → at_place t p ≡ o → option_and_then (at_place t) (slice_get (p ∷ places) (1 + past)) ≡ find (is_named (Some name)) (filter_map (at_place t) places)
        → option_and_then (at_place t) (slice_get (p ∷ places) (cond (not (option_map_or (has_name name) o false)) (1 + past) 0)) ≡ find (is_named (Some name)) (cons_option o (filter_map (at_place t) places))
    go None is rest = rest
    go (Some m) is rest = by m (has_name name m) (find (is_named (Some name)) (filter_map (at_place t) places)) is rest

pub named_found : (s : Schema) (name : List ℕ) → member_named s name ≡ find (is_named (Some name)) (nodes_of s)
named_found s name = go (nat_lt first (length s.node.members)) refl ∙ named_at s.table name s.node.members
  where
    first : ℕ
    first = position_or_len (λ place. option_map_or (has_name name) (at_place s.table place) false) s.node.members

    go : (b : Bool) → nat_lt first (length s.node.members) ≡ b → option_and_then (member_at s) (cond b (Some first) None) ≡ option_and_then (at_place s.table) (slice_get s.node.members first)
    go true is = refl
    go false is = ap (option_and_then (at_place s.table)) (sym (slice_get_past s.node.members first (ltb-false first (length s.node.members) is)))
