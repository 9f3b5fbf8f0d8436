-- What the test of an output schema says.
use Rattle.smithy_binding.proofs.Common.{are_distinct, ◌≡◌, ◌↔◌, sym, ◌∙◌, true, is_some, IsTrue, list_all, and_parts, same_kind, Schema, cites_nodes, members_of, member_names, has_header_kind, is_text_map, has_prefix_kind, members_with, has_at_most_one, has_sound_headers, has_defined_members, has_named_members, is_response_bound_once, has_plain_header_elements, has_code_kind, is_sound_response_member, has_sound_response_payload, checked_output, IsCheckedOutput}
use Rattle.smithy_ids.specs.declared.shape_type.ShapeType.TheVariants as kind
use Rattle.smithy_binding.proofs.CheckedLaws.{members_facts, members_test, prefix_kinds}
use Rattle.smithy_binding.proofs.JointTests.{both, all-both, all-parts, all-filter}
use Rattle.smithy_binding.proofs.Tests.{structure_from_test, structure_test, AreDistinct-from_test, are_distinct-from_facts}

-- the response codes, among the members
pub code_kinds : (schema : Schema) → list_all (λ m. same_kind m.node.kind kind.Integer) (members_with (λ t. t.http_response_code) schema) ≡ list_all has_code_kind (members_of schema)
code_kinds schema = all-filter (λ m. same_kind m.node.kind kind.Integer) (λ m. m.node.traits.http_response_code) (members_of schema)

pub IsCheckedOutput-from_test : (schema : Schema) → checked_output schema ≡ true → IsCheckedOutput schema
unfolding checked_output
IsCheckedOutput-from_test schema e =
    let ms = members_of schema in
    let a = and_parts (has_named_members schema) _ e in
    let b = and_parts _ (are_distinct (member_names schema)) a.0 in
    let c = and_parts _ (has_defined_members schema) b.0 in
    let d = and_parts _ (has_sound_headers schema) a.1 in
    let f = and_parts _ (has_at_most_one (λ t. t.http_response_code) schema) d.0 in
    let g = and_parts _ (has_at_most_one (λ t. is_some t.http_prefix_headers) schema) f.0 in
    let h = and_parts _ (has_sound_response_payload schema) g.0 in
    let n = all-parts _ has_code_kind ms h.0 in
    let o = all-parts _ has_prefix_kind ms n.0 in
    let each = members_facts is_response_bound_once has_header_kind has_plain_header_elements ms o.0 in
    record {
      structure = structure_from_test schema.node.kind c.0;
      cited = both _ _ c.1 each.0;
      names = AreDistinct-from_test _ b.1;
      bound_once = each.1;
      writable = each.2;
      kinds = each.3;
      elements = each.4;
      payload = h.1;
      prefix_map = both _ _ g.1 (prefix_kinds schema ∙ o.1);
      unlike_names = d.1;
      response_code = both _ _ f.1 (code_kinds schema ∙ n.1);
    }

pub checked_output-from_facts : (schema : Schema) → IsCheckedOutput schema → checked_output schema ≡ true
unfolding checked_output
checked_output-from_facts schema facts =
    let ms = members_of schema in
    let cited = and_parts (has_defined_members schema) (list_all cites_nodes ms) facts.cited in
    let maps = and_parts (has_at_most_one (λ t. is_some t.http_prefix_headers) schema) (list_all is_text_map (members_with (λ t. is_some t.http_prefix_headers) schema)) facts.prefix_map in
    let code = and_parts (has_at_most_one (λ t. t.http_response_code) schema) (list_all (λ m. same_kind m.node.kind kind.Integer) (members_with (λ t. t.http_response_code) schema)) facts.response_code in
    let members : list_all is_sound_response_member ms ≡ true =
    all-both _ has_code_kind ms
    (all-both _ has_prefix_kind ms
    (members_test is_response_bound_once has_header_kind has_plain_header_elements ms cited.1 facts.bound_once facts.writable facts.kinds facts.elements)
    (sym (prefix_kinds schema) ∙ maps.1))
    (sym (code_kinds schema) ∙ code.1) in
    both _ _
    (both _ _ (both _ _ (structure_test schema.node.kind facts.structure) cited.0) (are_distinct-from_facts _ facts.names))
    (both _ _ (both _ _ (both _ _ (both _ _ members facts.payload) maps.0) code.0) facts.unlike_names)

pub checked_output_iff : (schema : Schema) → IsTrue (checked_output schema) ↔ IsCheckedOutput schema
checked_output_iff schema = (IsCheckedOutput-from_test schema, checked_output-from_facts schema)
