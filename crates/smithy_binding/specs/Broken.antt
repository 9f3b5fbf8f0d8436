-- The first rule of a checked schema that a schema breaks, in the order in which the check asks for them.
use Rattle.std.specs.Prelude.{ℕ, nat_eq, Bool, false, not, ◌&&◌, ◌||◌, ◌==◌, codes, List, [], ◌∷◌, length, Option, Some, None, option_map, option_and_then, is_some, filter_map}
use Rattle.smithy_binding.specs.Words.{list_all, list_any, starts_with, option_map_or, option_or, str_to_ascii_lowercase, first_of_all, unless, are_distinct, is_token, is_legal_target, ShapeType, same_kind, is_structure_or_union, Schema, Http, Template, cites_nodes, members_of, pieces, holes_of, has_unclosed_brace}
use Rattle.smithy_ids.specs.declared.shape_type.ShapeType.TheVariants as kind
use Rattle.smithy_binding.specs.Bindings.{query_names}
use Rattle.smithy_binding.specs.Bodies.{payload_kind, has_unbound_member, is_raw_kind, is_codec_kind}
use Rattle.smithy_binding.specs.Clear.{filled_by_a, are_whole_segments, has_whole_authority, label_members, holes_named, is_greedy_last}
use Rattle.smithy_binding.specs.Checked.{member_names, is_bound_once, is_writable, has_label_kind, has_query_kind, has_header_kind, has_plain_elements, has_prefix_kind, is_query_map, has_at_most_one, lower_header_names, agrees, has_defined_members}
use Rattle.smithy_binding.specs.CheckedOutput.{is_response_bound_once, has_plain_header_elements, has_code_kind, response_payload_kind, has_response_body_member}
use Rattle.smithy_binding.specs.declared.rules.Rule.{Rule}
use Rattle.smithy_binding.specs.declared.rules.Rule.TheVariants as rule

-- a broken rule, with the name of the member that breaks it; none where it is one of the schema
pub record Broken : Type 0 where
  pub member : Option (List ℕ)
  pub rule : Rule

-- a rule that the schema breaks
abbrev pub by_schema : Option Rule → Option Broken
by_schema broken = option_map (λ r. record { member = None; rule = r }) broken

-- a rule that a member breaks
abbrev pub by_member : Schema → Option Rule → Option Broken
by_member m broken = option_map (λ r. record { member = m.node.member_name; rule = r }) broken

-- the first member that breaks one of its rules, and the first that it breaks
abbrev pub by_members : (Schema → Option Rule) → List Schema → Option Broken
by_members broken [] = None
by_members broken (m ∷ ms) = option_or (by_member m (broken m)) (by_members broken ms)

-- of a structure whose members are defined and have distinct names
abbrev pub named_rule : Schema → Option Rule
named_rule schema =
    first_of_all (unless (same_kind schema.node.kind kind.Structure) rule.Structure
    ∷ unless (has_defined_members schema) rule.DefinedMembers
    ∷ unless (are_distinct (member_names schema)) rule.DistinctMembers
    ∷ [])

-- a query map is one from texts to texts or to lists of texts (httpQueryParams)
abbrev pub has_query_map_kind : Schema → Bool
has_query_map_kind m = not m.node.traits.http_query_params || is_query_map m

-- of a member of an input
abbrev pub member_rule : Schema → Option Rule
member_rule m =
    first_of_all (unless (cites_nodes m) rule.DefinedNodes
    ∷ unless (is_bound_once m) rule.OneBinding
    ∷ unless (is_writable m) rule.WritableKind
    ∷ unless (has_label_kind m) rule.LabelKind
    ∷ unless (has_query_kind m) rule.QueryKind
    ∷ unless (has_header_kind m) rule.HeaderKind
    ∷ unless (has_plain_elements m) rule.PlainElements
    ∷ unless (has_prefix_kind m) rule.PrefixMapKind
    ∷ unless (has_query_map_kind m) rule.QueryMapKind
    ∷ [])

-- of a member of an output
abbrev pub response_member_rule : Schema → Option Rule
response_member_rule m =
    first_of_all (unless (cites_nodes m) rule.DefinedNodes
    ∷ unless (is_response_bound_once m) rule.OneResponseBinding
    ∷ unless (is_writable m) rule.WritableKind
    ∷ unless (has_header_kind m) rule.HeaderKind
    ∷ unless (has_plain_header_elements m) rule.PlainElements
    ∷ unless (has_prefix_kind m) rule.PrefixMapKind
    ∷ unless (has_code_kind m) rule.ResponseCodeKind
    ∷ [])

-- of a payload of this kind, if there is one, and of what stands in the body beside it
abbrev pub payload_rule : Option ShapeType → Bool → Option Rule
payload_rule None is_beside_unbound = None
payload_rule (Some k) is_beside_unbound =
    option_or (unless (is_raw_kind k || is_codec_kind k) rule.PayloadKind) (unless (not is_beside_unbound) rule.LonePayload)

-- the flag of no body members says what holds
abbrev pub has_true_flag : Schema → Bool
has_true_flag schema = not schema.node.has_no_body_members || not (has_unbound_member schema)

-- the payload hint says what holds
abbrev pub has_true_hint : Schema → Bool
has_true_hint schema = agrees schema.node.hint (option_map_or is_structure_or_union (payload_kind schema) false)

-- of the members of an input together, but for their names
abbrev pub joint_rule : Schema → Option Rule
joint_rule schema =
    first_of_all (unless (has_at_most_one (λ t. t.http_payload) schema) rule.OnePayload
    ∷ payload_rule (payload_kind schema) (has_unbound_member schema)
    ∷ unless (has_at_most_one (λ t. is_some t.http_prefix_headers) schema) rule.OnePrefixMap
    ∷ unless (has_at_most_one (λ t. t.http_query_params) schema) rule.OneQueryMap
    ∷ unless (has_true_flag schema) rule.TrueFlag
    ∷ unless (has_true_hint schema) rule.TrueHint
    ∷ [])

-- of the members of an output together, but for their names
abbrev pub response_joint_rule : Schema → Option Rule
response_joint_rule schema =
    first_of_all (unless (has_at_most_one (λ t. t.http_payload) schema) rule.OnePayload
    ∷ payload_rule (response_payload_kind schema) (has_response_body_member schema)
    ∷ unless (has_at_most_one (λ t. is_some t.http_prefix_headers) schema) rule.OnePrefixMap
    ∷ unless (has_at_most_one (λ t. t.http_response_code) schema) rule.OneResponseCode
    ∷ [])

-- of the name of a header
abbrev pub header_rule : Schema → Option Rule
header_rule m = option_and_then (λ name. unless (is_token (str_to_ascii_lowercase name)) rule.HeaderToken) m.node.traits.http_header

-- of a prefix, beside headers of these names in lower case
abbrev pub prefix_rule : List (List ℕ) → List ℕ → Option Rule
prefix_rule headers prefix =
    option_or (unless ((length prefix == 0) || is_token prefix) rule.PrefixToken)
    (unless (not (list_any (λ name. starts_with nat_eq name (str_to_ascii_lowercase prefix)) headers)) rule.PrefixApart)

-- of a prefix map, beside headers of these names in lower case
abbrev pub prefix_map_rule : List (List ℕ) → Schema → Option Rule
prefix_map_rule headers m = option_and_then (prefix_rule headers) m.node.traits.http_prefix_headers

-- of the names of headers and the prefixes
abbrev pub broken_header : Schema → Option Broken
broken_header schema =
    first_of_all (by_members header_rule (members_of schema)
    ∷ by_schema (unless (are_distinct (lower_header_names schema)) rule.DistinctHeaders)
    ∷ by_members (prefix_map_rule (lower_header_names schema)) (members_of schema)
    ∷ [])

-- of a template: with `a` in its holes it is a legal target, and the holes are whole segments of its path
abbrev pub path_rule : Template → Option Rule
path_rule template =
    first_of_all (unless (is_legal_target (filled_by_a template)) rule.LegalTemplate
    ∷ unless (are_whole_segments template.first template.rest) rule.WholeSegments
    ∷ unless (has_whole_authority template) rule.WholeAuthority
    ∷ [])

-- each label of the schema has one hole of the template, and there is no other
abbrev pub are_label_holes : Template → Schema → Bool
are_label_holes template schema =
    list_all (λ name. length (holes_named name template) == 1) (filter_map (λ m. m.node.member_name) (label_members schema))
    && (length (holes_of template) == length (label_members schema))

-- of the holes of a template, for the labels of the schema
abbrev pub hole_rule : Template → Schema → Option Rule
hole_rule template schema =
    first_of_all (unless (are_label_holes template schema) rule.LabelHoles ∷ unless (is_greedy_last (holes_of template)) rule.GreedyLast ∷ [])

-- of a template, for the labels of the schema
abbrev pub cut_rule : Template → Schema → Option Rule
cut_rule template schema = first_of_all (path_rule template ∷ hole_rule template schema ∷ [])

-- and as a text
abbrev pub template_rule : List ℕ → Schema → Option Rule
template_rule text schema = first_of_all (unless (not (has_unclosed_brace text)) rule.ClosedBraces ∷ cut_rule (pieces text) schema ∷ [])

-- of a method and a template, for the labels of the schema
abbrev pub method_rule : Schema → Http → Option Rule
method_rule schema h =
    first_of_all (unless (is_token h.method) rule.MethodToken
    ∷ template_rule h.uri schema
    ∷ unless (starts_with nat_eq h.uri (codes "/")) rule.LeadingSlash
    ∷ [])

-- of `@http`, where the schema has it
abbrev pub http_rule : Schema → Option Rule
http_rule schema = option_and_then (method_rule schema) schema.node.traits.http

-- The first broken rule of a checked input schema, in the order of `checked_input`: of its tests the first that fails, and where
-- it is asked of each member, of the first member that it fails for the first.
unfoldable pub broken_input : Schema → Option Broken
broken_input schema =
    first_of_all (by_schema (named_rule schema)
    ∷ by_members member_rule (members_of schema)
    ∷ by_schema (joint_rule schema)
    ∷ broken_header schema
    ∷ by_schema (unless (are_distinct (query_names schema)) rule.DistinctQueries)
    ∷ by_schema (http_rule schema)
    ∷ [])

-- the same of a checked output schema, in the order of `checked_output`
unfoldable pub broken_output : Schema → Option Broken
broken_output schema =
    first_of_all (by_schema (named_rule schema)
    ∷ by_members response_member_rule (members_of schema)
    ∷ by_schema (response_joint_rule schema)
    ∷ broken_header schema
    ∷ [])
