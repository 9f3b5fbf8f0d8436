-- Which of several faults is given, and what is no fault.
use Rattle.std.proofs.Common.{◌≡◌, refl, ℕ, codes, List, [], ◌∷◌, Option, Some, None}
use Rattle.std.specs.Option.{option_map as mapped}
use Rattle.second_codec.proofs.OnLiterals.{second_codec_on_literals}
use Rattle.smithy_ids.specs.declared.shape_type.ShapeType.TheVariants as kind
use Rattle.smithy_schema.specs.Nodes.{Schema}
use Rattle.smithy_serde.specs.Values.{Label, Value, scalar, Write, Writes, no_writes, write, writes_of, list_of, whole, integer, long, text, blob, null, document, timestamp, list, structure}
use Rattle.smithy_serde.specs.Values as value
use Rattle.smithy_binding.specs.Faults.{fault, fault_line}
use Rattle.second_codec.proofs.Making.{item_label, to, named}
use Rattle.second_codec.proofs.Samples.{one_name, labelled_body, one_header, endpoint_label}

-- the line of the fault of an input
abbrev line : Schema → List Write → List ℕ → Option (List ℕ)
line schema ws endpoint = mapped fault_line (fault schema ws endpoint)

pub header_before_a_later_write : line (one_header kind.String) (to (one_header kind.String) 0 (scalar (text (97 ∷ 10 ∷ []))) ∷ named (codes "Zed") (scalar (text [])) ∷ []) [] ≡ Some (codes "InvalidInput: invalid input: cannot serialize T to header `X-T`: invalid header value")
unfolding second_codec_on_literals
header_before_a_later_write = refl

pub write_before_a_later_header : line (one_header kind.String) (named (codes "Zed") (scalar (text [])) ∷ to (one_header kind.String) 0 (scalar (text (97 ∷ 10 ∷ []))) ∷ []) [] ≡ Some (codes "UnknownMember: unknown member: Zed")
unfolding second_codec_on_literals
write_before_a_later_header = refl

pub document_before_a_hole : line labelled_body (to labelled_body 1 (structure (write item_label (scalar (text [])) no_writes)) ∷ []) [] ≡ Some (codes "Custom: writing a struct member requires a member schema with member_name set; got schema for smithy.api#String")
unfolding second_codec_on_literals
document_before_a_hole = refl

pub hole_before_the_target : line endpoint_label [] (codes "/a b/{Bucket}") ≡ Some (codes "InvalidInput: invalid input: Bucket was missing: cannot be empty or unset")
unfolding second_codec_on_literals
hole_before_the_target = refl

pub map_before_its_name : line labelled_body (to labelled_body 1 (structure (write item_label (value.map (write item_label (scalar (text [])) no_writes)) no_writes)) ∷ []) [] ≡ Some (codes "Custom: map ended with an unmatched key (key written without a matching value)")
unfolding second_codec_on_literals
map_before_its_name = refl

pub later_write_is_tested_by_kind : line (one_header kind.String) (to (one_header kind.String) 0 (scalar (text [])) ∷ to (one_header kind.String) 0 (scalar null) ∷ []) [] ≡ Some (codes "UnsupportedOperation: unsupported operation: cannot write null to member T of type string")
unfolding second_codec_on_literals
later_write_is_tested_by_kind = refl

pub later_write_is_tested_no_further : line (one_header kind.String) (to (one_header kind.String) 0 (scalar (text [])) ∷ to (one_header kind.String) 0 (scalar (text (97 ∷ 10 ∷ []))) ∷ []) [] ≡ None
unfolding second_codec_on_literals
later_write_is_tested_no_further = refl

pub null_in_the_body_is_no_fault : line one_name (to one_name 0 (scalar null) ∷ []) [] ≡ None
unfolding second_codec_on_literals
null_in_the_body_is_no_fault = refl
