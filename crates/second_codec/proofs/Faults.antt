-- Each fault of an input with its line.
use Rattle.std.proofs.Common.{◌≡◌, refl, ℕ, codes, List, [], ◌∷◌, Option, Some, pos}
use Rattle.std.specs.Option.{option_map as mapped}
use Rattle.second_codec.proofs.OnLiterals.{second_codec_on_literals}
use Rattle.smithy_ids.specs.declared.shape_type.ShapeType.TheVariants as kind
use Rattle.smithy_schema.specs.Nodes.{Schema}
use Rattle.smithy_serde.specs.Values.{Label, Value, scalar, Write, Writes, no_writes, write, writes_of, list_of, whole, integer, long, text, blob, null, document, timestamp, list, structure}
use Rattle.smithy_serde.specs.Values as value
use Rattle.smithy_binding.specs.Faults.{fault, fault_line}
use Rattle.second_codec.proofs.Making.{item_label, to, named, string_map, list_map}
use Rattle.second_codec.proofs.Samples.{get_object, bucket, key, labelled_body, one_map, one_header, tags, metadata, search, list_search, endpoint_label}

-- the line of the fault of an input
abbrev line : Schema → List Write → List ℕ → Option (List ℕ)
line schema ws endpoint = mapped fault_line (fault schema ws endpoint)

pub empty_label : line get_object (to get_object 0 (scalar (text [])) ∷ key ∷ []) [] ≡ Some (codes "InvalidInput: invalid input: Bucket was missing: cannot be empty or unset")
unfolding second_codec_on_literals
empty_label = refl

pub unwritten_greedy_label : line get_object (bucket ∷ []) [] ≡ Some (codes "InvalidInput: invalid input: Key was missing: cannot be empty or unset")
unfolding second_codec_on_literals
unwritten_greedy_label = refl

pub null_at_a_header : line get_object (bucket ∷ key ∷ to get_object 1 (scalar null) ∷ []) [] ≡ Some (codes "UnsupportedOperation: unsupported operation: cannot write null to member Id of type integer")
unfolding second_codec_on_literals
null_at_a_header = refl

pub text_at_an_integer : line get_object (bucket ∷ key ∷ to get_object 1 (scalar (text (codes "7"))) ∷ []) [] ≡ Some (codes "UnsupportedOperation: unsupported operation: cannot write string to member Id of type integer")
unfolding second_codec_on_literals
text_at_an_integer = refl

pub unknown_name : line (one_header kind.String) (named (codes "Zed") (scalar (text [])) ∷ []) [] ≡ Some (codes "UnknownMember: unknown member: Zed")
unfolding second_codec_on_literals
unknown_name = refl

pub unknown_node_without_a_name : line (one_header kind.String) (record { label = item_label; value = scalar (text []) } ∷ []) [] ≡ Some (codes "UnknownMember: unknown member: smithy.api#String")
unfolding second_codec_on_literals
unknown_node_without_a_name = refl

-- the name is not tried then
pub index_past_the_end : line (one_header kind.String) (record { label = record item_label { member_name = Some (codes "T"); member_index = Some 1 }; value = scalar (text []) } ∷ []) [] ≡ Some (codes "UnknownMember: unknown member: T")
unfolding second_codec_on_literals
index_past_the_end = refl

pub header_with_a_line_feed : line (one_header kind.String) (to (one_header kind.String) 0 (scalar (text (97 ∷ 10 ∷ []))) ∷ []) [] ≡ Some (codes "InvalidInput: invalid input: cannot serialize T to header `X-T`: invalid header value")
unfolding second_codec_on_literals
header_with_a_line_feed = refl

pub entry_without_a_token : line metadata (to metadata 0 (string_map ((codes "a b", 10 ∷ []) ∷ [])) ∷ []) [] ≡ Some (codes "InvalidInput: invalid input: cannot serialize meta to headers with prefix `X-Meta-`: invalid header name")
unfolding second_codec_on_literals
entry_without_a_token = refl

pub entry_with_a_line_feed : line metadata (to metadata 0 (string_map ((codes "a", 10 ∷ []) ∷ [])) ∷ []) [] ≡ Some (codes "InvalidInput: invalid input: cannot serialize meta to headers with prefix `X-Meta-`: invalid header value")
unfolding second_codec_on_literals
entry_with_a_line_feed = refl

pub integer_in_a_list_of_texts : line tags (to tags 0 (list (write item_label (scalar (text (codes "a"))) (write item_label (scalar (whole long (pos 5))) no_writes))) ∷ []) [] ≡ Some (codes "UnsupportedOperation: unsupported operation: cannot write long to an element of member tags of type string")
unfolding second_codec_on_literals
integer_in_a_list_of_texts = refl

pub integer_in_a_list_of_an_entry : line list_search (to list_search 0 (list_map ((codes "q", scalar (text (codes "x")) ∷ scalar (whole long (pos 5)) ∷ []) ∷ [])) ∷ []) [] ≡ Some (codes "UnsupportedOperation: unsupported operation: cannot write long to an element of member P of type string")
unfolding second_codec_on_literals
integer_in_a_list_of_an_entry = refl

pub text_in_place_of_a_list_of_an_entry : line list_search (to list_search 0 (string_map ((codes "q", codes "x") ∷ [])) ∷ []) [] ≡ Some (codes "UnsupportedOperation: unsupported operation: cannot write string to an element of member P of type list")
unfolding second_codec_on_literals
text_in_place_of_a_list_of_an_entry = refl

pub null_in_a_list_of_texts : line tags (to tags 0 (list (write item_label (scalar null) no_writes)) ∷ []) [] ≡ Some (codes "UnsupportedOperation: unsupported operation: cannot write null to an element of member tags of type string")
unfolding second_codec_on_literals
null_in_a_list_of_texts = refl

pub key_without_a_value : line search (to search 1 (value.map (write item_label (scalar (text (codes "q"))) no_writes)) ∷ []) [] ≡ Some (codes "UnsupportedOperation: unsupported operation: map member params ends with a key without a value")
unfolding second_codec_on_literals
key_without_a_value = refl

pub year_of_a_header : line (one_header kind.Timestamp) (to (one_header kind.Timestamp) 0 (scalar (timestamp (pos 253402300800))) ∷ []) [] ≡ Some (codes "Custom: failed to format timestamp: year outside 1 to 9999")
unfolding second_codec_on_literals
year_of_a_header = refl

pub field_without_a_name : line labelled_body (to labelled_body 1 (structure (write item_label (scalar (text [])) no_writes)) ∷ []) [] ≡ Some (codes "Custom: writing a struct member requires a member schema with member_name set; got schema for smithy.api#String")
unfolding second_codec_on_literals
field_without_a_name = refl

pub key_that_is_no_text : line one_map (to one_map 0 (value.map (write item_label (scalar (whole integer (pos 1))) (write item_label (scalar null) no_writes))) ∷ []) [] ≡ Some (codes "Custom: map key must be a String document; got number")
unfolding second_codec_on_literals
key_that_is_no_text = refl

pub key_that_is_last : line one_map (to one_map 0 (value.map (write item_label (scalar (text [])) no_writes)) ∷ []) [] ≡ Some (codes "Custom: map ended with an unmatched key (key written without a matching value)")
unfolding second_codec_on_literals
key_that_is_last = refl

pub endpoint_with_a_space : line endpoint_label (to endpoint_label 0 (scalar (text (codes "b"))) ∷ []) (codes "/a b") ≡ Some (codes "Custom: invalid endpoint URI: not a legal request target")
unfolding second_codec_on_literals
endpoint_with_a_space = refl
