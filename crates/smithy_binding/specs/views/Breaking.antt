-- The first broken rule, over the members that the code lists.
use Rattle.std.specs.Prelude.{ℕ, nat_eq, nat_le, Bool, not, ◌&&◌, ◌==◌, codes, List, [], ◌∷◌, length, Option, option_map, option_and_then}
use Rattle.smithy_binding.specs.Words.{list_all, starts_with, first_of_all, unless, are_distinct, is_token, is_legal_target, Schema, Http, Template, holes_of, pieces, has_unclosed_brace}
use Rattle.smithy_binding.specs.Clear.{filled_by_a, are_whole_segments, has_whole_authority, holes_named, is_greedy_last}
use Rattle.smithy_binding.specs.Broken.{Broken, by_schema, by_members, member_rule, response_member_rule, payload_rule, header_rule, prefix_map_rule}
use Rattle.smithy_binding.specs.views.Checking.{count_of, payload_in, has_unbound_in, has_true_flag_for, has_true_hint_for, names_under, lower_names}
use Rattle.smithy_binding.specs.declared.rules.BrokenRule.{BrokenRule}
use Rattle.smithy_binding.specs.declared.rules.Rule.{Rule}
use Rattle.smithy_binding.specs.declared.rules.Rule.TheVariants as rule
use Rattle.smithy_binding.specs.declared.name_check.NameKind.TheVariants as names
use Rattle.smithy_binding.specs.declared.direction.Direction.{Direction}
use Rattle.smithy_binding.specs.declared.direction.Direction.TheVariants as direction
use Rattle.smithy_binding.specs.declared.members.Counted.TheVariants as counted

-- what is told of a broken rule
abbrev pub broken_of : BrokenRule → Broken
broken_of b = record { member = option_map (λ name. name.now) b.member; rule = b.rule }

-- and where there is one
abbrev pub broken_shown : Option BrokenRule → Option Broken
broken_shown b = option_map broken_of b

-- of a member
abbrev pub member_rule_in : Direction → Schema → Option Rule
member_rule_in direction.Request m = member_rule m
member_rule_in direction.Response m = response_member_rule m

-- of a payload, and of what stands in the body beside it
abbrev pub payload_rule_in : Direction → List Schema → Option Rule
payload_rule_in way ms = payload_rule (payload_in way ms) (has_unbound_in way ms)

-- of the members of an input together, but for their names
abbrev pub joint_rule_for : Schema → List Schema → Option Rule
joint_rule_for schema ms =
    first_of_all (unless (nat_le (count_of counted.Payload ms) 1) rule.OnePayload
    ∷ payload_rule_in direction.Request ms
    ∷ unless (nat_le (count_of counted.Prefix ms) 1) rule.OnePrefixMap
    ∷ unless (nat_le (count_of counted.QueryMap ms) 1) rule.OneQueryMap
    ∷ unless (has_true_flag_for schema ms) rule.TrueFlag
    ∷ unless (has_true_hint_for schema ms) rule.TrueHint
    ∷ [])

-- of the members of an output together, but for their names
abbrev pub response_joint_rule_of : List Schema → Option Rule
response_joint_rule_of ms =
    first_of_all (unless (nat_le (count_of counted.Payload ms) 1) rule.OnePayload
    ∷ payload_rule_in direction.Response ms
    ∷ unless (nat_le (count_of counted.Prefix ms) 1) rule.OnePrefixMap
    ∷ unless (nat_le (count_of counted.ResponseCode ms) 1) rule.OneResponseCode
    ∷ [])

-- the names of headers in lower case
abbrev pub lower_headers : List Schema → List (List ℕ)
lower_headers ms = lower_names (names_under names.Header ms)

-- of the prefixes, beside headers of these names
abbrev pub broken_prefix_of : List (List ℕ) → List Schema → Option Broken
broken_prefix_of headers ms = by_members (prefix_map_rule headers) ms

-- of the names of headers and the prefixes
abbrev pub broken_header_of : List Schema → Option Broken
broken_header_of ms =
    first_of_all (by_members header_rule ms
    ∷ by_schema (unless (are_distinct (lower_headers ms)) rule.DistinctHeaders)
    ∷ broken_prefix_of (lower_headers ms) ms
    ∷ [])

-- of the names of queries
abbrev pub query_rule_of : List Schema → Option Rule
query_rule_of ms = unless (are_distinct (names_under names.Query ms)) rule.DistinctQueries

-- of a template's path, where with `a` in each hole it is this text
abbrev pub path_rule_for : Template → List ℕ → Option Rule
path_rule_for template filled =
    first_of_all (unless (is_legal_target filled) rule.LegalTemplate
    ∷ unless (are_whole_segments template.first template.rest) rule.WholeSegments
    ∷ unless (has_whole_authority template) rule.WholeAuthority
    ∷ [])

-- each of the names is that of one hole
abbrev pub have_holes : List (List ℕ) → Template → Bool
have_holes labels template = list_all (λ name. length (holes_named name template) == 1) labels

-- of the holes of a template, where `have_one` says whether each label has one, of so many
abbrev pub hole_rule_for : Template → Bool → ℕ → Option Rule
hole_rule_for template have_one count =
    first_of_all (unless (have_one && (length (holes_of template) == count)) rule.LabelHoles
    ∷ unless (is_greedy_last (holes_of template)) rule.GreedyLast
    ∷ [])

-- of a template, for labels of these names
abbrev pub cut_rule_for : Template → List (List ℕ) → ℕ → Option Rule
cut_rule_for template labels count =
    first_of_all (path_rule_for template (filled_by_a template) ∷ hole_rule_for template (have_holes labels template) count ∷ [])

-- and as a text
abbrev pub template_rule_for : List ℕ → List (List ℕ) → ℕ → Option Rule
template_rule_for text labels count = first_of_all (unless (not (has_unclosed_brace text)) rule.ClosedBraces ∷ cut_rule_for (pieces text) labels count ∷ [])

-- of a template, for the labels among these members
abbrev pub template_rule_among : List ℕ → List Schema → Option Rule
template_rule_among text ms = template_rule_for text (names_under names.Label ms) (count_of counted.Label ms)

-- of a method and a template
abbrev pub method_rule_among : List Schema → Http → Option Rule
method_rule_among ms h =
    first_of_all (unless (is_token h.method) rule.MethodToken
    ∷ template_rule_among h.uri ms
    ∷ unless (starts_with nat_eq h.uri (codes "/")) rule.LeadingSlash
    ∷ [])

-- of `@http`, where the schema has it
abbrev pub http_rule_among : Schema → List Schema → Option Rule
http_rule_among schema ms = option_and_then (method_rule_among ms) schema.node.traits.http

-- of an input whose members are defined and have distinct names
abbrev pub broken_among : Schema → List Schema → Option Broken
broken_among schema ms =
    first_of_all (by_members member_rule ms
    ∷ by_schema (joint_rule_for schema ms)
    ∷ broken_header_of ms
    ∷ by_schema (query_rule_of ms)
    ∷ by_schema (http_rule_among schema ms)
    ∷ [])

-- of an output whose members are defined and have distinct names
abbrev pub broken_response_among : List Schema → Option Broken
broken_response_among ms =
    first_of_all (by_members response_member_rule ms
    ∷ by_schema (response_joint_rule_of ms)
    ∷ broken_header_of ms
    ∷ [])
