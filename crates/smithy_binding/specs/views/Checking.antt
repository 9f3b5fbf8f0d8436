-- The tests of a schema over the members that the code lists.
use Rattle.std.specs.Prelude.{◌≡◌, ℕ, Bool, true, false, not, ◌&&◌, ◌||◌, if◌then◌else◌, None, List, length, filter, map, find, filter_map, nat_le, nat_eq, ◌==◌, Option, option_map, is_some, MatchOption}
use Rattle.smithy_binding.specs.Words.{Bor, list_all, list_any, starts_with, str_to_ascii_lowercase, option_map_or, is_token, is_legal_target, are_distinct, ShapeType, same_kind, is_structure_or_union, Schema, Traits, members_of, element_of, is_bound, is_response_bound, binding_of, pieces, holes_of, has_unclosed_brace, schema_of, SchemaRef}
use Rattle.std.specs.Global.{Vec}
use Rattle.smithy_ids.specs.declared.shape_type.ShapeType.TheVariants as kind
use Rattle.smithy_binding.specs.Clear.{filled_by_a, are_whole_segments, has_whole_authority, holes_named, is_greedy_last}
use Rattle.smithy_binding.specs.Bodies.{is_payload}
use Rattle.smithy_binding.specs.Checked.{is_sound_member, is_sound_payload, agrees, has_sound_names, has_sound_http}
use Rattle.smithy_binding.specs.CheckedOutput.{is_sound_response_member}
use Rattle.smithy_binding.specs.declared.name_check.NameKind.{NameKind}
use Rattle.smithy_binding.specs.declared.name_check.NameKind.TheVariants as names
use Rattle.smithy_binding.specs.declared.direction.Direction.{Direction}
use Rattle.smithy_binding.specs.declared.direction.Direction.TheVariants as direction
use Rattle.smithy_binding.specs.declared.members.Counted.{Counted}
use Rattle.smithy_binding.specs.declared.members.Counted.TheVariants as counted

abbrev pub shown : List SchemaRef → List Schema
shown members = map schema_of members

-- the members are listed where the test passes, and not where it fails
abbrev pub ListsIf : Bool → Schema → Option (Vec SchemaRef) → Type 0
ListsIf test schema listed = MatchOption listed (test ≡ false) (λ ms. (test ≡ true) × (shown ms.items ≡ members_of schema))

-- the element of a list
abbrev pub list_element : Schema → Option Schema
list_element m = if same_kind m.node.kind kind.List then element_of m else None

-- a trait whose members are counted
abbrev pub counted_test : Counted → Traits → Bool
counted_test counted.Payload t = t.http_payload
counted_test counted.Prefix t = is_some t.http_prefix_headers
counted_test counted.QueryMap t = t.http_query_params
counted_test counted.Label t = t.http_label
counted_test counted.ResponseCode t = t.http_response_code

-- what is asked of each member
abbrev pub is_sound_in : Direction → Schema → Bool
is_sound_in direction.Request m = is_sound_member m
is_sound_in direction.Response m = is_sound_response_member m

-- the payload
abbrev pub is_payload_in : Direction → Schema → Bool
is_payload_in direction.Request m = is_payload (binding_of m)
is_payload_in direction.Response m = m.node.traits.http_payload

-- a member outside the body
abbrev pub is_bound_in : Direction → Schema → Bool
is_bound_in direction.Request m = is_bound m
is_bound_in direction.Response m = is_response_bound m

abbrev pub count_of : Counted → List Schema → ℕ
count_of which ms = length (filter (λ m. counted_test which m.node.traits) ms)

abbrev pub payload_in : Direction → List Schema → Option ShapeType
payload_in way ms = option_map (λ m. m.node.kind) (find (λ m. is_payload_in way m) ms)

abbrev pub has_unbound_in : Direction → List Schema → Bool
has_unbound_in way ms = list_any (λ m. not (is_bound_in way m)) ms

-- at most one payload, of a payload's kind, beside which no member is unbound
abbrev pub has_sound_payload_in : Direction → List Schema → Bool
has_sound_payload_in way ms = nat_le (count_of counted.Payload ms) 1 && is_sound_payload (payload_in way ms) (has_unbound_in way ms)

-- the flag of an input says what holds
abbrev pub has_true_flag_for : Schema → List Schema → Bool
has_true_flag_for schema ms = not schema.node.has_no_body_members || not (has_unbound_in direction.Request ms)

-- and the hint
abbrev pub has_true_hint_for : Schema → List Schema → Bool
has_true_hint_for schema ms = agrees schema.node.hint (option_map_or is_structure_or_union (payload_in direction.Request ms) false)

-- the flag and the hint of an input say what holds
abbrev pub has_true_flags_for : Schema → List Schema → Bool
has_true_flags_for schema ms = has_true_flag_for schema ms && has_true_hint_for schema ms

-- what needs no memory, over the members of an input
abbrev pub are_sound : Schema → List Schema → Bool
are_sound schema ms =
    list_all (is_sound_in direction.Request) ms
    && has_sound_payload_in direction.Request ms
    && nat_le (count_of counted.Prefix ms) 1
    && nat_le (count_of counted.QueryMap ms) 1
    && has_true_flags_for schema ms

-- what is asked of a structure whose members are defined and have distinct names
abbrev pub is_sound_input : Schema → Bool
is_sound_input schema = are_sound schema (members_of schema) && has_sound_names schema && has_sound_http schema

-- what needs no memory, over the members of an output
abbrev pub are_sound_response : List Schema → Bool
are_sound_response ms =
    list_all (is_sound_in direction.Response) ms
    && has_sound_payload_in direction.Response ms
    && nat_le (count_of counted.Prefix ms) 1
    && nat_le (count_of counted.ResponseCode ms) 1

abbrev pub texts_shown : List (Bor (List ℕ)) → List (List ℕ)
texts_shown names = map (λ n. n.now) names

-- the name of a kind that a member has
abbrev pub name_under : NameKind → Schema → Option (List ℕ)
name_under names.Member m = m.node.member_name
name_under names.Label m = if m.node.traits.http_label then m.node.member_name else None
name_under names.Header m = m.node.traits.http_header
name_under names.Prefix m = m.node.traits.http_prefix_headers
name_under names.Query m = m.node.traits.http_query

-- the names of a kind
abbrev pub names_under : NameKind → List Schema → List (List ℕ)
names_under which ms = filter_map (name_under which) ms

-- empty or a token, and at the start of no name
abbrev pub is_sound_prefix_of : List (List ℕ) → List ℕ → Bool
is_sound_prefix_of headers prefix =
    ((length prefix == 0) || is_token prefix) && not (list_any (λ name. starts_with nat_eq name (str_to_ascii_lowercase prefix)) headers)

abbrev pub are_sound_prefixes : List (List ℕ) → List (List ℕ) → Bool
are_sound_prefixes headers prefixes = list_all (is_sound_prefix_of headers) prefixes

abbrev pub lower_names : List (List ℕ) → List (List ℕ)
lower_names headers = map str_to_ascii_lowercase headers

-- header names are tokens and distinct without case, and no prefix begins one
abbrev pub have_sound_headers : List Schema → Bool
have_sound_headers ms =
    let headers = lower_names (names_under names.Header ms) in
    list_all is_token headers && are_distinct headers && are_sound_prefixes headers (names_under names.Prefix ms)

-- and query names are distinct
abbrev pub have_sound_names : List Schema → Bool
have_sound_names ms = have_sound_headers ms && are_distinct (names_under names.Query ms)

-- what is asked of an output whose members are defined and have distinct names
abbrev pub is_sound_output : List Schema → Bool
is_sound_output ms = are_sound_response ms && have_sound_headers ms

-- a clear template, for labels of these names
abbrev pub is_clear_for : List ℕ → List (List ℕ) → ℕ → Bool
is_clear_for text labels count =
    let template = pieces text in
    not (has_unclosed_brace text)
    && is_legal_target (filled_by_a template)
    && are_whole_segments template.first template.rest
    && has_whole_authority template
    && (list_all (λ name. length (holes_named name template) == 1) labels && (length (holes_of template) == count))
    && is_greedy_last (holes_of template)

-- a clear template, for the labels among these members
abbrev pub is_clear_among : List ℕ → List Schema → Bool
is_clear_among text ms = is_clear_for text (names_under names.Label ms) (count_of counted.Label ms)
