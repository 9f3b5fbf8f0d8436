-- What the test of an input schema says.
use Rattle.smithy_binding.proofs.Common.{are_distinct, ◌≡◌, ◌↔◌, sym, ◌∙◌, Bool, true, ◌&&◌, List, is_some, IsTrue, All, list_all, and_parts, AllPass-from_list_all, list_all-from_AllPass, Schema, cites_nodes, members_of, member_names, is_bound_once, is_writable, has_bound_kind, has_plain_elements, is_text_map, is_query_map, has_prefix_kind, has_query_map_kind, has_map_kind, is_sound_member, members_with, has_at_most_one, has_sound_payload, has_sound_maps, has_sound_names, has_true_flags, has_sound_http, has_defined_members, has_named_members, checked_input, IsCheckedInput}
use Rattle.smithy_binding.proofs.JointTests.{both, all-both, all-parts, all-filter}
use Rattle.smithy_binding.proofs.Tests.{structure_from_test, structure_test, AreDistinct-from_test, are_distinct-from_facts}

-- what is asked of each member, of an input or of an output

module _ (once kinds plain : Schema → Bool) (ms : List Schema) where
  pub members_facts : list_all (λ m. cites_nodes m && once m && is_writable m && kinds m && plain m) ms ≡ true
      → (list_all cites_nodes ms ≡ true) × All (λ m. IsTrue (once m)) ms × All (λ m. IsTrue (is_writable m)) ms × All (λ m. IsTrue (kinds m)) ms × All (λ m. IsTrue (plain m)) ms
  members_facts e =
      let n = all-parts _ plain ms e in
      let o = all-parts _ kinds ms n.0 in
      let p = all-parts _ is_writable ms o.0 in
      let q = all-parts cites_nodes once ms p.0 in
      (q.0, AllPass-from_list_all once ms q.1, AllPass-from_list_all is_writable ms p.1, AllPass-from_list_all kinds ms o.1, AllPass-from_list_all plain ms n.1)

  pub members_test : list_all cites_nodes ms ≡ true → All (λ m. IsTrue (once m)) ms → All (λ m. IsTrue (is_writable m)) ms → All (λ m. IsTrue (kinds m)) ms → All (λ m. IsTrue (plain m)) ms
      → list_all (λ m. cites_nodes m && once m && is_writable m && kinds m && plain m) ms ≡ true
  members_test c o w k p =
      all-both _ plain ms (all-both _ kinds ms (all-both _ is_writable ms (all-both cites_nodes once ms c (list_all-from_AllPass once ms o)) (list_all-from_AllPass is_writable ms w)) (list_all-from_AllPass kinds ms k)) (list_all-from_AllPass plain ms p)

-- the maps in the headers and the query, among the members

pub prefix_kinds : (schema : Schema) → list_all is_text_map (members_with (λ t. is_some t.http_prefix_headers) schema) ≡ list_all has_prefix_kind (members_of schema)
prefix_kinds schema = all-filter is_text_map (λ m. is_some m.node.traits.http_prefix_headers) (members_of schema)

query_kinds : (schema : Schema) → list_all is_query_map (members_with (λ t. t.http_query_params) schema) ≡ list_all has_query_map_kind (members_of schema)
query_kinds schema = all-filter is_query_map (λ m. m.node.traits.http_query_params) (members_of schema)

-- each of them is of a kind of its binding
pub map_kinds : (schema : Schema) → has_sound_maps schema ≡ true → list_all has_map_kind (members_of schema) ≡ true
map_kinds schema e =
    let a = and_parts _ (list_all is_query_map (members_with (λ t. t.http_query_params) schema)) e in
    let b = and_parts _ (list_all is_text_map (members_with (λ t. is_some t.http_prefix_headers) schema)) a.0 in
    all-both has_prefix_kind has_query_map_kind (members_of schema) (sym (prefix_kinds schema) ∙ b.1) (sym (query_kinds schema) ∙ a.1)

pub IsCheckedInput-from_test : (schema : Schema) → checked_input schema ≡ true → IsCheckedInput schema
unfolding checked_input
IsCheckedInput-from_test schema e =
    let ms = members_of schema in
    let a = and_parts (has_named_members schema) _ e in
    let b = and_parts _ (are_distinct (member_names schema)) a.0 in
    let c = and_parts _ (has_defined_members schema) b.0 in
    let d = and_parts _ (has_sound_http schema) a.1 in
    let f = and_parts _ (has_sound_names schema) d.0 in
    let g = and_parts _ (has_true_flags schema) f.0 in
    let h = and_parts _ (has_at_most_one (λ t. t.http_query_params) schema) g.0 in
    let i = and_parts _ (has_at_most_one (λ t. is_some t.http_prefix_headers) schema) h.0 in
    let j = and_parts _ (has_sound_payload schema) i.0 in
    let n = all-parts _ has_map_kind ms j.0 in
    let each = members_facts is_bound_once has_bound_kind has_plain_elements ms n.0 in
    let s = all-parts has_prefix_kind has_query_map_kind ms n.1 in
    record {
      structure = structure_from_test schema.node.kind c.0;
      cited = both _ _ c.1 each.0;
      names = AreDistinct-from_test _ b.1;
      bound_once = each.1;
      writable = each.2;
      kinds = each.3;
      elements = each.4;
      payload = j.1;
      maps = both _ _ (both _ _ (both _ _ i.1 h.1) (prefix_kinds schema ∙ s.0)) (query_kinds schema ∙ s.1);
      unlike_names = f.1;
      flags = g.1;
      http = d.1;
    }

pub checked_input-from_facts : (schema : Schema) → IsCheckedInput schema → checked_input schema ≡ true
unfolding checked_input
checked_input-from_facts schema facts =
    let ms = members_of schema in
    let cited = and_parts (has_defined_members schema) (list_all cites_nodes ms) facts.cited in
    let maps =
    and_parts _ (list_all is_text_map (members_with (λ t. is_some t.http_prefix_headers) schema)) (and_parts _ (list_all is_query_map (members_with (λ t. t.http_query_params) schema)) facts.maps).0 in
    let few = and_parts (has_at_most_one (λ t. is_some t.http_prefix_headers) schema) (has_at_most_one (λ t. t.http_query_params) schema) maps.0 in
    let members : list_all is_sound_member ms ≡ true =
    all-both _ has_map_kind ms
    (members_test is_bound_once has_bound_kind has_plain_elements ms cited.1 facts.bound_once facts.writable facts.kinds facts.elements)
    (map_kinds schema facts.maps) in
    both _ _
    (both _ _ (both _ _ (structure_test schema.node.kind facts.structure) cited.0) (are_distinct-from_facts _ facts.names))
    (both _ _ (both _ _ (both _ _ (both _ _ (both _ _ (both _ _ members facts.payload) few.0) few.1) facts.flags) facts.unlike_names) facts.http)

pub checked_input_iff : (schema : Schema) → IsTrue (checked_input schema) ↔ IsCheckedInput schema
checked_input_iff schema = (IsCheckedInput-from_test schema, checked_input-from_facts schema)
