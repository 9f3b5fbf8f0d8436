-- Values in range, shaped values, and normal forms.
use Rattle.std.proofs.Common.{◌≡◌, refl, ℕ, codes, true, false, List, [], ◌∷◌, Some, pos}
use Rattle.std.specs.Option.{option_map_or}
use Rattle.second_codec.proofs.OnLiterals.{second_codec_on_literals}
use Rattle.smithy_types.specs.Documents as doc
use Rattle.smithy_schema.specs.Nodes.{at_place, member_at}
use Rattle.smithy_serde.specs.Values.{Value, scalar, Write, label_of, writes_of, no_writes, write, whole, integer, text, blob, null, document, list, structure}
use Rattle.smithy_serde.specs.Shaped.{is_shaped}
use Rattle.smithy_serde.specs.Ranges.{is_in_range}
use Rattle.smithy_types.specs.Maps.{with_value}
use Rattle.smithy_serde.specs.NormalBody.{last_named}
use Rattle.smithy_binding.specs.NormalForm.{view}
use Rattle.second_codec.proofs.Making.{item_label, integer_label, to, named, elements, strings, string_map, list_map}
use Rattle.second_codec.proofs.Samples.{own_content_type, nested_body, metadata, search, list_search, tags, list_payload, document_payload}

pub blob_of_bytes_alone : is_in_range (scalar (blob (255 ∷ 256 ∷ []))) ≡ false
unfolding second_codec_on_literals
blob_of_bytes_alone = refl

pub object_with_names_in_order : is_in_range (scalar (document (doc.object (doc.member (codes "a") doc.null (doc.member (codes "b") doc.null doc.no_members))))) ≡ true
unfolding second_codec_on_literals
object_with_names_in_order = refl

pub object_with_a_name_twice : is_in_range (scalar (document (doc.object (doc.member (codes "a") doc.null (doc.member (codes "a") doc.null doc.no_members))))) ≡ false
unfolding second_codec_on_literals
object_with_a_name_twice = refl

pub entry_in_place_of_another : with_value (codes "k") (scalar null) ((codes "k", scalar (text [])) ∷ []) ≡ (codes "k", scalar null) ∷ []
entry_in_place_of_another = refl

pub last_of_a_name : last_named (codes "k") ((codes "k", scalar (text [])) ∷ (codes "k", scalar null) ∷ (codes "l", scalar (text [])) ∷ []) ≡ Some (scalar null)
last_of_a_name = refl

-- a key that is a query member's name leaves nothing
pub empty_query_map_is_dropped : view search (to search 1 (string_map ((codes "max", codes "9") ∷ [])) ∷ []) ≡ []
unfolding second_codec_on_literals
empty_query_map_is_dropped = refl

pub empty_list_of_an_entry_is_dropped : view list_search (to list_search 0 (list_map ((codes "z", []) ∷ (codes "q", scalar (text []) ∷ []) ∷ [])) ∷ []) ≡ to list_search 0 (list_map ((codes "q", scalar (text []) ∷ []) ∷ [])) ∷ []
unfolding second_codec_on_literals
empty_list_of_an_entry_is_dropped = refl

pub list_of_one_empty_text_stands : view tags (to tags 0 (strings ([] ∷ [])) ∷ []) ≡ to tags 0 (strings ([] ∷ [])) ∷ []
unfolding second_codec_on_literals
list_of_one_empty_text_stands = refl

pub list_payload_has_the_labels_of_its_nodes : view list_payload (to list_payload 0 (elements (scalar (whole integer (pos 1)) ∷ [])) ∷ []) ≡ to list_payload 0 (list (write integer_label (scalar (whole integer (pos 1))) no_writes)) ∷ []
unfolding second_codec_on_literals
list_payload_has_the_labels_of_its_nodes = refl

pub null_document_stands : view document_payload (to document_payload 0 (scalar (document doc.null)) ∷ []) ≡ to document_payload 0 (scalar (document doc.null)) ∷ []
unfolding second_codec_on_literals
null_document_stands = refl

pub last_unbound_and_first_bound : view own_content_type (named (codes "name") (scalar (text (codes "a"))) ∷ named (codes "T") (scalar (text (codes "x"))) ∷ named (codes "T") (scalar (text (codes "y"))) ∷ named (codes "name") (scalar (text (codes "b"))) ∷ []) ≡ to own_content_type 0 (scalar (text (codes "x"))) ∷ to own_content_type 1 (scalar (text (codes "b"))) ∷ []
unfolding second_codec_on_literals
last_unbound_and_first_bound = refl

pub entries_in_order_in_lower_case : view metadata (to metadata 0 (string_map ((codes "b", codes "1") ∷ (codes "A", codes "2") ∷ (codes "a", codes "3") ∷ [])) ∷ []) ≡ to metadata 0 (string_map ((codes "a", codes "3") ∷ (codes "b", codes "1") ∷ [])) ∷ []
unfolding second_codec_on_literals
entries_in_order_in_lower_case = refl

-- a structure of these writes, at its member
abbrev data_of : List Write → Write
data_of ws = to nested_body 0 (structure (writes_of ws))

-- a write with the label of the node at a place
abbrev own_field : ℕ → Value → Write
own_field place v = record { label = option_map_or label_of (at_place nested_body.table place) item_label; value = v }

pub last_of_each_field_in_index_order : view nested_body (data_of (named (codes "b") (scalar (whole integer (pos 1))) ∷ named (codes "a") (scalar (text [])) ∷ named (codes "b") (scalar (whole integer (pos 2))) ∷ []) ∷ []) ≡ data_of (own_field 2 (scalar (text [])) ∷ own_field 3 (scalar (whole integer (pos 2))) ∷ []) ∷ []
unfolding second_codec_on_literals
last_of_each_field_in_index_order = refl

pub fields_follow_their_nodes : is_shaped (member_at nested_body 0) (structure (writes_of (named (codes "b") (scalar (whole integer (pos 1))) ∷ named (codes "a") (scalar null) ∷ []))) ≡ true
unfolding second_codec_on_literals
fields_follow_their_nodes = refl

pub field_of_another_kind : is_shaped (member_at nested_body 0) (structure (writes_of (named (codes "b") (scalar (text [])) ∷ []))) ≡ false
unfolding second_codec_on_literals
field_of_another_kind = refl

pub field_of_no_member : is_shaped (member_at nested_body 0) (structure (writes_of (named (codes "c") (scalar null) ∷ []))) ≡ false
unfolding second_codec_on_literals
field_of_no_member = refl
