-- Which schemas are checked.
use Rattle.std.proofs.Common.{◌≡◌, refl, ◌&&◌, ◌+◌, ◌^◌, codes, true, false, [], ◌∷◌, Some}
use Rattle.second_codec.proofs.OnLiterals.{second_codec_on_literals}
use Rattle.smithy_ids.specs.declared.shape_type.ShapeType.TheVariants as kind
use Rattle.smithy_ids.specs.declared.payload_hint.PayloadHint.TheVariants.{StructPayload}
use Rattle.smithy_schema.specs.Nodes.{no_traits}
use Rattle.second_codec.specs.Routing.{routing}
use Rattle.smithy_binding.specs.Clear.{is_clear}
use Rattle.smithy_binding.specs.Checked.{checked_input}
use Rattle.smithy_binding.specs.CheckedOutput.{checked_output}
use Rattle.second_codec.proofs.Making.{with_element, label, payload, response_code, header, prefix_map, query, with_http, member, with_entries, string_node, structure_of, flagged}
use Rattle.second_codec.proofs.Samples.{one_name, one_payload, list_payload, document_payload, list_search, list_metadata, every_header, endpoint_label, nothing_in, tagged_output, many_members}

pub every_header_is_checked : checked_input every_header ≡ true
unfolding second_codec_on_literals
every_header_is_checked = refl

-- each aggregate and a document may be the payload, and the query map may hold lists
pub payload_of_any_aggregate : (checked_input list_payload && checked_input document_payload && checked_input (one_payload kind.Map) && checked_input (one_payload kind.Union)) ≡ true
unfolding second_codec_on_literals
payload_of_any_aggregate = refl

pub number_payload : checked_input (one_payload kind.Integer) ≡ false
unfolding second_codec_on_literals
number_payload = refl

pub query_map_of_lists : checked_input list_search ≡ true
unfolding second_codec_on_literals
query_map_of_lists = refl

pub prefix_map_of_lists : checked_input list_metadata ≡ false
unfolding second_codec_on_literals
prefix_map_of_lists = refl

-- the empty prefix begins every header name
pub empty_prefix_beside_a_header : checked_input (structure_of (with_http (codes "GET") (codes "/")) 2 (with_entries 2 3 (member 0 (codes "P") kind.Map (prefix_map [])) ∷ member 1 (codes "T") kind.String (header (codes "X-T")) ∷ string_node ∷ string_node ∷ [])) ≡ false
unfolding second_codec_on_literals
empty_prefix_beside_a_header = refl

pub float_member : checked_input (structure_of (with_http (codes "GET") (codes "/")) 1 (member 0 (codes "Id") kind.Float (header (codes "X-Id")) ∷ [])) ≡ false
unfolding second_codec_on_literals
float_member = refl

pub names_twice : checked_input (structure_of (with_http (codes "GET") (codes "/")) 2 (member 0 (codes "a") kind.String no_traits ∷ member 1 (codes "a") kind.String no_traits ∷ [])) ≡ false
unfolding second_codec_on_literals
names_twice = refl

pub headers_without_case_twice : checked_input (structure_of (with_http (codes "GET") (codes "/")) 2 (member 0 (codes "a") kind.String (header (codes "X-A")) ∷ member 1 (codes "b") kind.String (header (codes "x-a")) ∷ [])) ≡ false
unfolding second_codec_on_literals
headers_without_case_twice = refl

pub payload_beside_an_unbound_member : checked_input (structure_of (with_http (codes "GET") (codes "/")) 2 (member 0 (codes "a") kind.Blob payload ∷ member 1 (codes "b") kind.String no_traits ∷ [])) ≡ false
unfolding second_codec_on_literals
payload_beside_an_unbound_member = refl

pub element_with_a_media_type : checked_input (structure_of (with_http (codes "GET") (codes "/")) 1 (with_element 1 (member 0 (codes "a") kind.List (header (codes "X-A"))) ∷ member 0 (codes "e") kind.String (record no_traits { media_type = Some (codes "t") }) ∷ [])) ≡ false
unfolding second_codec_on_literals
element_with_a_media_type = refl

pub element_of_no_list : checked_input (structure_of (with_http (codes "GET") (codes "/")) 1 (with_element 1 (member 0 (codes "a") kind.String (header (codes "X-A"))) ∷ member 0 (codes "e") kind.String (record no_traits { media_type = Some (codes "t") }) ∷ [])) ≡ true
unfolding second_codec_on_literals
element_of_no_list = refl

pub label_without_a_hole : checked_input (structure_of (with_http (codes "GET") (codes "/")) 1 (member 0 (codes "a") kind.String label ∷ [])) ≡ false
unfolding second_codec_on_literals
label_without_a_hole = refl

pub hole_inside_a_segment : checked_input (structure_of (with_http (codes "GET") (codes "/x{a}")) 1 (member 0 (codes "a") kind.String label ∷ [])) ≡ false
unfolding second_codec_on_literals
hole_inside_a_segment = refl

pub hole_in_the_query : checked_input (structure_of (with_http (codes "GET") (codes "/?x={a}")) 1 (member 0 (codes "a") kind.String label ∷ [])) ≡ false
unfolding second_codec_on_literals
hole_in_the_query = refl

pub greedy_hole_before_another : checked_input (structure_of (with_http (codes "GET") (codes "/{a+}/{b}")) 2 (member 0 (codes "a") kind.String label ∷ member 1 (codes "b") kind.String label ∷ [])) ≡ false
unfolding second_codec_on_literals
greedy_hole_before_another = refl

pub false_flag : checked_input (flagged StructPayload one_name) ≡ false
unfolding second_codec_on_literals
false_flag = refl

pub hole_at_the_end : checked_input (structure_of (with_http (codes "GET") (codes "/x/{a}?y")) 1 (member 0 (codes "a") kind.String label ∷ [])) ≡ true
unfolding second_codec_on_literals
hole_at_the_end = refl

pub absolute_template_needs_a_slash : is_clear (codes "http://h") nothing_in ≡ false
unfolding second_codec_on_literals
absolute_template_needs_a_slash = refl

-- with `/` behind the query's `?` alone the authority has no end
pub slash_in_the_query : is_clear (codes "http://h?a/b") nothing_in ≡ false
unfolding second_codec_on_literals
slash_in_the_query = refl

-- `?` right behind the authority's `/` is clear
pub query_behind_the_slash : is_clear (codes "http://h/?a/b") nothing_in ≡ true
unfolding second_codec_on_literals
query_behind_the_slash = refl

pub absolute_template : is_clear (codes "http://h/{Bucket}") endpoint_label ≡ true
unfolding second_codec_on_literals
absolute_template = refl

pub tagged_output_is_checked : checked_output tagged_output ≡ true
unfolding second_codec_on_literals
tagged_output_is_checked = refl

pub output_looks_at_no_query : checked_output (structure_of (with_http (codes "GET") (codes "/")) 1 (member 0 (codes "a") kind.Map (query (codes "q")) ∷ [])) ≡ true
unfolding second_codec_on_literals
output_looks_at_no_query = refl

pub two_response_codes : checked_output (structure_of (with_http (codes "GET") (codes "/")) 2 (member 0 (codes "a") kind.Integer response_code ∷ member 1 (codes "b") kind.Integer response_code ∷ [])) ≡ false
unfolding second_codec_on_literals
two_response_codes = refl

pub response_code_of_a_text : checked_output (structure_of (with_http (codes "GET") (codes "/")) 1 (member 0 (codes "a") kind.String response_code ∷ [])) ≡ false
unfolding second_codec_on_literals
response_code_of_a_text = refl

-- 62 members in the body, and response headers behind them
pub many_members_are_routed : routing many_members ≡ 2 ^ 62 + 2 ^ 63
many_members_are_routed = refl
