-- A schema that is well made stands in its table, and its texts are UTF-8.
use Rattle.smithy_unambiguity.proofs.Common.{◌≡◌, ap, sym, subst, ◌∙◌, ℕ, zero, suc, ◌+◌, arith, Bool, true, false, ◌&&◌, ◌||◌, ◌==◌, List, [], ◌∷◌, slice_get, Option, Some, None, option_map, is_some, list_all, option_map_or, is_utf8, and_parts, is_member, IsSound, Node, Table, Schema, node_at, has_utf8, has_utf8_traits, has_utf8_texts, is_whole, are_in_place, is_node_well_made, is_table_well_made, is_well_made, Stands}
use Rattle.std.specs.Option.{is_none}
use Rattle.smithy_ids.specs.ShapeIds.{has_hash}

all_nodes : (q : Node → Bool) (nodes : Table) (place : ℕ) (n : Node) → list_all (λ (o : Option Node). option_map_or q o true) nodes ≡ true → node_at nodes place ≡ Some n → q n ≡ true
all_nodes q [] place n all e = absurd (cc e)
all_nodes q (o ∷ nodes) zero n all e = let same : o ≡ Some n = e in ap (λ x. option_map_or q x true) (sym same) ∙ (and_parts (option_map_or q o true) (list_all (λ (o : Option Node). option_map_or q o true) nodes) all).0
all_nodes q (o ∷ nodes) (suc p) n all e = all_nodes q nodes p n (and_parts (option_map_or q o true) (list_all (λ (o : Option Node). option_map_or q o true) nodes) all).1 e

-- the two tests of a member are one
one_test : (table : Table) (o : Option Node) (i : ℕ) → option_map_or (λ (m : Schema). option_map_or (λ k. k == i) m.node.member_index false && is_some m.node.member_name) (option_map (λ n. record { table = table; node = n }) o) false ≡ true → is_member o i ≡ true
one_test table None i e = absurd (cc e)
one_test table (Some n) i e = e

in_place : (table : Table) (places : List ℕ) (first : ℕ) → are_in_place first table places ≡ true → (position place : ℕ) → slice_get places position ≡ Some place → is_member (node_at table place) (first + position) ≡ true
in_place table [] first all position place at = absurd (cc at)
in_place table (p ∷ places) first all zero place at =
    let none_more : first + 0 ≡ first = omega arith in
    let same : p ≡ place = cc at in
    ap (is_member (node_at table place)) none_more ∙ subst (λ q. is_member (node_at table q) first ≡ true) same (one_test table (node_at table p) first (and_parts _ (are_in_place (first + 1) table places) all).0)
in_place table (p ∷ places) first all (suc position) place at =
    let one_more : first + suc position ≡ first + 1 + position = omega arith in
    ap (is_member (node_at table place)) one_more ∙ in_place table places (first + 1) (and_parts _ (are_in_place (first + 1) table places) all).1 position place at

from_start : (table : Table) (places : List ℕ) → are_in_place 0 table places ≡ true → (position place : ℕ) → slice_get places position ≡ Some place → is_member (node_at table place) position ≡ true
from_start table places all position place at = let start : position ≡ 0 + position = omega arith in ap (is_member (node_at table place)) start ∙ in_place table places 0 all position place at

pub table_is_sound : (table : Table) → is_table_well_made table ≡ true → IsSound table
table_is_sound table all = record {
  whole = λ place node at. (parts place node at).0;
  members = λ place node at. from_start table node.members (parts place node at).1;
}
  where
    parts : (place : ℕ) (node : Node) → node_at table place ≡ Some node → (is_whole node ≡ true) × (are_in_place 0 table node.members ≡ true)
    parts place node at = and_parts (is_whole node) (are_in_place 0 table node.members) (all_nodes (is_node_well_made table) table place node all at)

pub well_made_stands : (s : Schema) → is_well_made s ≡ true → Stands s
well_made_stands s made =
    let tests = and_parts (is_table_well_made s.table) (is_node_well_made s.table s.node) made in
    record { table = table_is_sound s.table tests.0; members = from_start s.table s.node.members (and_parts (is_whole s.node) (are_in_place 0 s.table s.node.members) tests.1).1 }

-- what a node's texts are
pub record HasTexts (n : Node) : Type 0 where
  pub name : has_utf8 n.member_name ≡ true
  pub header : has_utf8 n.traits.http_header ≡ true
  pub prefix : has_utf8 n.traits.http_prefix_headers ≡ true
  pub query : has_utf8 n.traits.http_query ≡ true

pub has_texts : (n : Node) → is_whole n ≡ true → HasTexts n
has_texts n e =
    let t = n.traits in
    let a = and_parts (has_hash n.full_name && (is_some n.member_name || is_none n.member_index)) (has_utf8_texts n) e in
    let b = and_parts (is_utf8 n.full_name && has_utf8 n.member_name) (has_utf8_traits t) a.1 in
    let c = and_parts (has_utf8 t.http_header && has_utf8 t.http_prefix_headers && has_utf8 t.http_query) (has_utf8 (option_map (λ h. h.uri) t.http)) b.1 in
    let d = and_parts (has_utf8 t.http_header && has_utf8 t.http_prefix_headers) (has_utf8 t.http_query) c.0 in
    let f = and_parts (has_utf8 t.http_header) (has_utf8 t.http_prefix_headers) d.0 in
    record { name = (and_parts (is_utf8 n.full_name) (has_utf8 n.member_name) b.0).1; header = f.0; prefix = f.1; query = d.1 }
