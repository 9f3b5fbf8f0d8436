-- A schema breaks no rule exactly where its check says yes.
use Rattle.smithy_binding.proofs.Common.{◌≡◌, ◌↔◌, refl, ap, sym, ◌∙◌, ℕ, nat_eq, Bool, true, false, not, ◌&&◌, ◌||◌, ◌==◌, codes, List, [], ◌∷◌, length, map, filter_map, cons_option, Option, Some, None, is_none, is_some, option_map, option_and_then, option_map_or, option_or, IsTrue, list_all, list_any, starts_with, str_to_ascii_lowercase, are_distinct, first_of_all, unless, is_token, is_legal_target, ShapeType, same_kind, Schema, Http, Template, cites_nodes, members_of, pieces, holes_of, has_unclosed_brace, query_names, payload_kind, has_unbound_member, is_raw_kind, is_codec_kind, is_clear, filled_by_a, are_whole_segments, has_whole_authority, is_greedy_last, member_names, is_bound_once, is_writable, has_label_kind, has_query_kind, has_header_kind, has_plain_elements, has_prefix_kind, is_sound_member, has_at_most_one, is_sound_payload, has_sound_payload, lower_header_names, has_sound_headers, has_true_flags, has_sound_http, has_defined_members, has_named_members, checked_input, is_response_bound_once, has_plain_header_elements, has_code_kind, response_payload_kind, has_response_body_member, is_sound_response_member, has_sound_response_payload, checked_output, is_sound_prefix_of, Rule, Broken, by_schema, by_member, by_members, named_rule, has_query_map_kind, member_rule, response_member_rule, payload_rule, has_true_flag, has_true_hint, joint_rule, response_joint_rule, header_rule, prefix_rule, prefix_map_rule, broken_header, path_rule, are_label_holes, hole_rule, cut_rule, template_rule, method_rule, http_rule, broken_input, broken_output, count_of, template_rule_for, template_rule_among, method_rule_among, http_rule_among, broken_among, broken_response_among, lower_headers, broken_prefix_of, broken_header_of, path_rule_for, hole_rule_for, cut_rule_for, have_holes}
use Rattle.smithy_binding.specs.declared.rules.Rule.TheVariants as rule
use Rattle.smithy_ids.specs.declared.shape_type.ShapeType.TheVariants as kind
use Rattle.smithy_binding.proofs.BrokenGroups.{in_three, in_four, in_seven, of_member, of_members, of_template, of_input, of_output}
use Rattle.smithy_binding.specs.declared.members.Counted.TheVariants as counted
use Rattle.smithy_binding.proofs.CheckingLemmas.{filter_map-filter}
use Rattle.smithy_binding.proofs.ClearLemmas.{list_all-same}

-- none of several

none_or : {A : Type 0} (a b : Option A) → is_none (option_or a b) ≡ (is_none a && is_none b)
none_or None b = refl
none_or (Some x) b = refl

none_of_all : {A : Type 0} (os : List (Option A)) → is_none (first_of_all os) ≡ list_all is_none os
none_of_all [] = refl
none_of_all (o ∷ os) = none_or o (first_of_all os) ∙ ap (λ b. is_none o && b) (none_of_all os)

none_unless : {A : Type 0} (test : Bool) (x : A) → is_none (unless test x) ≡ test
none_unless true x = refl
none_unless false x = refl

-- of tests, each with its rule
none_tests : (ts : List (Bool × Rule)) → is_none (first_of_all (map (λ t. unless t.0 t.1) ts)) ≡ list_all (λ t. t.0) ts
none_tests [] = refl
none_tests (t ∷ ts) = none_or (unless t.0 t.1) (first_of_all (map (λ t. unless t.0 t.1) ts)) ∙ (λ i. none_unless t.0 t.1 i && none_tests ts i)

none_map : {A B : Type 0} (f : A → B) (o : Option A) → is_none (option_map f o) ≡ is_none o
none_map f None = refl
none_map f (Some x) = refl

none_is : {A : Type 0} (o : Option A) → is_none o ≡ true → o ≡ None
none_is None e = refl
none_is (Some x) e = absurd (cc e)

-- none of the members breaks a rule

none_members : (broken : Schema → Option Rule) (ms : List Schema) → is_none (by_members broken ms) ≡ list_all (λ m. is_none (broken m)) ms
none_members broken [] = refl
none_members broken (m ∷ ms) =
    none_or (by_member m (broken m)) (by_members broken ms)
    ∙ (λ i. none_map (λ (r : Rule). let b : Broken = record { member = m.node.member_name; rule = r } in b) (broken m) i && none_members broken ms i)

none_by : (broken : Schema → Option Rule) (sound : Schema → Bool) (ms : List Schema) → ((m : Schema) → is_none (broken m) ≡ sound m) → is_none (by_members broken ms) ≡ list_all sound ms
none_by broken sound ms same = none_members broken ms ∙ list_all-same (λ m. is_none (broken m)) sound same ms

none_schema : (broken : Option Rule) → is_none (by_schema broken) ≡ is_none broken
none_schema None = refl
none_schema (Some r) = refl

-- of each member

none_member : (m : Schema) → is_none (member_rule m) ≡ is_sound_member m
none_member m =
    none_tests ((cites_nodes m, rule.DefinedNodes) ∷ (is_bound_once m, rule.OneBinding) ∷ (is_writable m, rule.WritableKind) ∷ (has_label_kind m, rule.LabelKind) ∷ (has_query_kind m, rule.QueryKind)
    ∷ (has_header_kind m, rule.HeaderKind) ∷ (has_plain_elements m, rule.PlainElements) ∷ (has_prefix_kind m, rule.PrefixMapKind) ∷ (has_query_map_kind m, rule.QueryMapKind) ∷ [])
    ∙ of_member (cites_nodes m) (is_bound_once m) (is_writable m) (has_label_kind m) (has_query_kind m) (has_header_kind m) (has_plain_elements m) (has_prefix_kind m) (has_query_map_kind m)

none_response_member : (m : Schema) → is_none (response_member_rule m) ≡ is_sound_response_member m
none_response_member m =
    none_tests ((cites_nodes m, rule.DefinedNodes) ∷ (is_response_bound_once m, rule.OneResponseBinding) ∷ (is_writable m, rule.WritableKind) ∷ (has_header_kind m, rule.HeaderKind)
    ∷ (has_plain_header_elements m, rule.PlainElements) ∷ (has_prefix_kind m, rule.PrefixMapKind) ∷ (has_code_kind m, rule.ResponseCodeKind) ∷ [])
    ∙ in_seven (cites_nodes m) (is_response_bound_once m) (is_writable m) (has_header_kind m) (has_plain_header_elements m) (has_prefix_kind m) (has_code_kind m)

-- of all together

none_payload : (k : Option ShapeType) (is_beside_unbound : Bool) → is_none (payload_rule k is_beside_unbound) ≡ is_sound_payload k is_beside_unbound
none_payload None is_beside_unbound = refl
none_payload (Some k) is_beside_unbound =
    none_or (unless (is_raw_kind k || is_codec_kind k) rule.PayloadKind) (unless (not is_beside_unbound) rule.LonePayload) ∙ (λ i. none_unless (is_raw_kind k || is_codec_kind k) rule.PayloadKind i && none_unless (not is_beside_unbound) rule.LonePayload i)

none_named : (schema : Schema) → is_none (named_rule schema) ≡ has_named_members schema
none_named schema =
    let a = same_kind schema.node.kind kind.Structure in
    let b = has_defined_members schema in
    let c = are_distinct (member_names schema) in
    none_tests ((a, rule.Structure) ∷ (b, rule.DefinedMembers) ∷ (c, rule.DistinctMembers) ∷ []) ∙ in_three a b c

none_joint : (schema : Schema) → is_none (joint_rule schema)
    ≡ (has_sound_payload schema && has_at_most_one (λ t. is_some t.http_prefix_headers) schema && has_at_most_one (λ t. t.http_query_params) schema && has_true_flags schema)
none_joint schema =
    let a = has_at_most_one (λ t. t.http_payload) schema in
    let b = is_sound_payload (payload_kind schema) (has_unbound_member schema) in
    let c = has_at_most_one (λ t. is_some t.http_prefix_headers) schema in
    let d = has_at_most_one (λ t. t.http_query_params) schema in
    let e = has_true_flag schema in
    let f = has_true_hint schema in
    none_of_all (unless a rule.OnePayload ∷ payload_rule (payload_kind schema) (has_unbound_member schema) ∷ unless c rule.OnePrefixMap ∷ unless d rule.OneQueryMap ∷ unless e rule.TrueFlag ∷ unless f rule.TrueHint ∷ [])
    ∙ (λ i. none_unless a rule.OnePayload i && (none_payload (payload_kind schema) (has_unbound_member schema) i && (none_unless c rule.OnePrefixMap i
    && (none_unless d rule.OneQueryMap i && (none_unless e rule.TrueFlag i && (none_unless f rule.TrueHint i && true))))))
    ∙ of_members a b c d e f

none_response_joint : (schema : Schema) → is_none (response_joint_rule schema)
    ≡ (has_sound_response_payload schema && has_at_most_one (λ t. is_some t.http_prefix_headers) schema && has_at_most_one (λ t. t.http_response_code) schema)
none_response_joint schema =
    let a = has_at_most_one (λ t. t.http_payload) schema in
    let b = is_sound_payload (response_payload_kind schema) (has_response_body_member schema) in
    let c = has_at_most_one (λ t. is_some t.http_prefix_headers) schema in
    let d = has_at_most_one (λ t. t.http_response_code) schema in
    none_of_all (unless a rule.OnePayload ∷ payload_rule (response_payload_kind schema) (has_response_body_member schema) ∷ unless c rule.OnePrefixMap ∷ unless d rule.OneResponseCode ∷ [])
    ∙ (λ i. none_unless a rule.OnePayload i && (none_payload (response_payload_kind schema) (has_response_body_member schema) i && (none_unless c rule.OnePrefixMap i
    && (none_unless d rule.OneResponseCode i && true))))
    ∙ in_four a b c d

-- of names

none_headers : (ms : List Schema) → list_all (λ m. is_none (header_rule m)) ms ≡ list_all is_token (map str_to_ascii_lowercase (filter_map (λ m. m.node.traits.http_header) ms))
none_headers [] = refl
none_headers (m ∷ ms) = go m.node.traits.http_header (none_headers ms)
  where
    go : (header : Option (List ℕ)) → list_all (λ m. is_none (header_rule m)) ms ≡ list_all is_token (map str_to_ascii_lowercase (filter_map (λ m. m.node.traits.http_header) ms))
        → (is_none (option_and_then (λ name. unless (is_token (str_to_ascii_lowercase name)) rule.HeaderToken) header) && list_all (λ m. is_none (header_rule m)) ms)
        ≡ list_all is_token (map str_to_ascii_lowercase (cons_option header (filter_map (λ m. m.node.traits.http_header) ms)))
    go None e = e
    go (Some name) e = λ i. none_unless (is_token (str_to_ascii_lowercase name)) rule.HeaderToken i && e i

none_prefix : (headers : List (List ℕ)) (prefix : List ℕ) → is_none (prefix_rule headers prefix) ≡ is_sound_prefix_of headers prefix
none_prefix headers prefix =
    let a = (length prefix == 0) || is_token prefix in
    let b = not (list_any (λ name. starts_with nat_eq name (str_to_ascii_lowercase prefix)) headers) in
    none_or (unless a rule.PrefixToken) (unless b rule.PrefixApart) ∙ (λ i. none_unless a rule.PrefixToken i && none_unless b rule.PrefixApart i)

none_prefixes : (headers : List (List ℕ)) (ms : List Schema)
    → list_all (λ m. is_none (prefix_map_rule headers m)) ms ≡ list_all (is_sound_prefix_of headers) (filter_map (λ m. m.node.traits.http_prefix_headers) ms)
none_prefixes headers [] = refl
none_prefixes headers (m ∷ ms) = go m.node.traits.http_prefix_headers (none_prefixes headers ms)
  where
    go : (prefix : Option (List ℕ))
        → list_all (λ m. is_none (prefix_map_rule headers m)) ms ≡ list_all (is_sound_prefix_of headers) (filter_map (λ m. m.node.traits.http_prefix_headers) ms)
        → (is_none (option_and_then (prefix_rule headers) prefix) && list_all (λ m. is_none (prefix_map_rule headers m)) ms)
        ≡ list_all (is_sound_prefix_of headers) (cons_option prefix (filter_map (λ m. m.node.traits.http_prefix_headers) ms))
    go None e = e
    go (Some prefix) e = λ i. none_prefix headers prefix i && e i

none_header : (schema : Schema) → is_none (broken_header schema) ≡ has_sound_headers schema
none_header schema =
    let ms = members_of schema in
    let headers = lower_header_names schema in
    let tokens = list_all is_token headers in
    let prefixes = list_all (is_sound_prefix_of headers) (filter_map (λ m. m.node.traits.http_prefix_headers) ms) in
    none_of_all (by_members header_rule ms ∷ by_schema (unless (are_distinct headers) rule.DistinctHeaders) ∷ by_members (prefix_map_rule headers) ms ∷ [])
    ∙ (λ i. (none_members header_rule ms ∙ none_headers ms) i
    && ((none_schema (unless (are_distinct headers) rule.DistinctHeaders) ∙ none_unless (are_distinct headers) rule.DistinctHeaders) i
    && ((none_members (prefix_map_rule headers) ms ∙ none_prefixes headers ms) i && true)))
    ∙ in_three tokens (are_distinct headers) prefixes

-- of the method and the template

none_template : (text : List ℕ) (schema : Schema) → is_none (template_rule text schema) ≡ is_clear text schema
unfolding is_clear
none_template text schema =
    let template = pieces text in
    let u = not (has_unclosed_brace text) in
    let l = is_legal_target (filled_by_a template) in
    let s = are_whole_segments template.first template.rest in
    let a = has_whole_authority template in
    let h = are_label_holes template schema in
    let g = is_greedy_last (holes_of template) in
    let path = none_tests ((l, rule.LegalTemplate) ∷ (s, rule.WholeSegments) ∷ (a, rule.WholeAuthority) ∷ []) in
    let holes = none_tests ((h, rule.LabelHoles) ∷ (g, rule.GreedyLast) ∷ []) in
    none_of_all (unless u rule.ClosedBraces ∷ cut_rule template schema ∷ [])
    ∙ (λ i. none_unless u rule.ClosedBraces i && ((none_of_all (path_rule template ∷ hole_rule template schema ∷ []) ∙ (λ j. path j && (holes j && true))) i && true))
    ∙ of_template u l s a h g

none_method : (schema : Schema) (h : Http) → is_none (method_rule schema h) ≡ (is_token h.method && is_clear h.uri schema && starts_with nat_eq h.uri (codes "/"))
none_method schema h =
    let a = is_token h.method in
    let b = is_clear h.uri schema in
    let c = starts_with nat_eq h.uri (codes "/") in
    none_of_all (unless a rule.MethodToken ∷ template_rule h.uri schema ∷ unless c rule.LeadingSlash ∷ []) ∙ (λ i. none_unless a rule.MethodToken i && (none_template h.uri schema i && (none_unless c rule.LeadingSlash i && true))) ∙ in_three a b c

none_http : (schema : Schema) → is_none (http_rule schema) ≡ has_sound_http schema
none_http schema = go schema.node.traits.http
  where
    go : (http : Option Http) → is_none (option_and_then (method_rule schema) http)
        ≡ option_map_or (λ h. is_token h.method && is_clear h.uri schema && starts_with nat_eq h.uri (codes "/")) http true
    go None = refl
    go (Some h) = none_method schema h

-- the whole

none_input : (schema : Schema) → is_none (broken_input schema) ≡ checked_input schema
unfolding broken_input checked_input
none_input schema =
    let ms = members_of schema in
    let queries = are_distinct (query_names schema) in
    none_of_all (by_schema (named_rule schema) ∷ by_members member_rule ms ∷ by_schema (joint_rule schema) ∷ broken_header schema ∷ by_schema (unless queries rule.DistinctQueries) ∷ by_schema (http_rule schema) ∷ [])
    ∙ (λ i. (none_schema (named_rule schema) ∙ none_named schema) i && (none_by member_rule is_sound_member ms none_member i
    && ((none_schema (joint_rule schema) ∙ none_joint schema) i && (none_header schema i
    && ((none_schema (unless queries rule.DistinctQueries) ∙ none_unless queries rule.DistinctQueries) i && ((none_schema (http_rule schema) ∙ none_http schema) i && true))))))
    ∙ of_input (has_named_members schema) (list_all is_sound_member ms) (has_sound_payload schema) (has_at_most_one (λ t. is_some t.http_prefix_headers) schema)
    (has_at_most_one (λ t. t.http_query_params) schema) (has_true_flags schema) (has_sound_headers schema) queries (has_sound_http schema)

none_output : (schema : Schema) → is_none (broken_output schema) ≡ checked_output schema
unfolding broken_output checked_output
none_output schema =
    let ms = members_of schema in
    none_of_all (by_schema (named_rule schema) ∷ by_members response_member_rule ms ∷ by_schema (response_joint_rule schema) ∷ broken_header schema ∷ [])
    ∙ (λ i. (none_schema (named_rule schema) ∙ none_named schema) i && (none_by response_member_rule is_sound_response_member ms none_response_member i
    && ((none_schema (response_joint_rule schema) ∙ none_response_joint schema) i && (none_header schema i && true))))
    ∙ of_output (has_named_members schema) (list_all is_sound_response_member ms) (has_sound_response_payload schema) (has_at_most_one (λ t. is_some t.http_prefix_headers) schema)
    (has_at_most_one (λ t. t.http_response_code) schema) (has_sound_headers schema)

pub broken_input_iff : (schema : Schema) → broken_input schema ≡ None ↔ IsTrue (checked_input schema)
broken_input_iff schema = ((λ e. sym (none_input schema) ∙ ap is_none e), (λ h. none_is (broken_input schema) (none_input schema ∙ h)))

pub broken_output_iff : (schema : Schema) → broken_output schema ≡ None ↔ IsTrue (checked_output schema)
broken_output_iff schema = ((λ e. sym (none_output schema) ∙ ap is_none e), (λ h. none_is (broken_output schema) (none_output schema ∙ h)))

-- the whole over the members that the code lists

named-none : (schema : Schema) → has_named_members schema ≡ true → named_rule schema ≡ None
named-none schema h = none_is (named_rule schema) (none_named schema ∙ h)

template-among : (schema : Schema) (text : List ℕ) → template_rule text schema ≡ template_rule_among text (members_of schema)
template-among schema text =
    ap (λ (labels : List (List ℕ)). template_rule_for text labels (count_of counted.Label (members_of schema))) (filter_map-filter (λ m. m.node.member_name) (λ m. m.node.traits.http_label) (members_of schema))

http-among : (schema : Schema) → http_rule_among schema (members_of schema) ≡ http_rule schema
http-among schema = go schema.node.traits.http
  where
    go : (http : Option Http) → option_and_then (method_rule_among (members_of schema)) http ≡ option_and_then (method_rule schema) http
    go None = refl
    go (Some h) = λ i. first_of_all (unless (is_token h.method) rule.MethodToken ∷ sym (template-among schema h.uri) i ∷ unless (starts_with nat_eq h.uri (codes "/")) rule.LeadingSlash ∷ [])

-- what is asked behind the first, which has this outcome
input_behind : Schema → Option Rule → Option Rule → Option Broken
input_behind schema first http =
    first_of_all (by_schema first ∷ by_members member_rule (members_of schema) ∷ by_schema (joint_rule schema) ∷ broken_header schema
    ∷ by_schema (unless (are_distinct (query_names schema)) rule.DistinctQueries) ∷ by_schema http ∷ [])

pub broken_input-is : (schema : Schema) → has_named_members schema ≡ true → broken_among schema (members_of schema) ≡ broken_input schema
unfolding broken_input input_behind
broken_input-is schema h = λ i. input_behind schema (sym (named-none schema h) i) (http-among schema i)

pub broken_input-named : (schema : Schema) (r : Rule) → named_rule schema ≡ Some r → by_schema (Some r) ≡ broken_input schema
unfolding broken_input input_behind
broken_input-named schema r e = λ i. input_behind schema (sym e i) (http_rule schema)

output_behind : Schema → Option Rule → Option Broken
output_behind schema first =
    first_of_all (by_schema first ∷ by_members response_member_rule (members_of schema) ∷ by_schema (response_joint_rule schema) ∷ broken_header schema ∷ [])

pub broken_output-is : (schema : Schema) → has_named_members schema ≡ true → broken_response_among (members_of schema) ≡ broken_output schema
unfolding broken_output output_behind
broken_output-is schema h = λ i. output_behind schema (sym (named-none schema h) i)

pub broken_output-named : (schema : Schema) (r : Rule) → named_rule schema ≡ Some r → by_schema (Some r) ≡ broken_output schema
unfolding broken_output output_behind
broken_output-named schema r e = λ i. output_behind schema (sym e i)

-- the names are alike, where that is all that is wrong
pub third_fails : (a b c : Bool) → a ≡ true → b ≡ true → (a && b && c) ≡ false
    → first_of_all (unless a rule.Structure ∷ unless b rule.DefinedMembers ∷ unless c rule.DistinctMembers ∷ []) ≡ Some rule.DistinctMembers
third_fails true true false p q e = refl
third_fails true true true p q e = absurd (cc e)
third_fails true false c p q e = absurd (cc q)
third_fails false b c p q e = absurd (cc p)

-- what is asked last, where nothing before it is broken

or_none : {A : Type 0} (o : Option A) → option_or o None ≡ o
or_none None = refl
or_none (Some x) = refl

pub header-behind : (ms : List Schema) (headers : List (List ℕ)) (b : Option Broken) → None ≡ by_members header_rule ms → headers ≡ lower_headers ms → are_distinct headers ≡ true
    → b ≡ broken_prefix_of headers ms → b ≡ broken_header_of ms
header-behind ms headers b none same distinct e =
    let last = broken_prefix_of (lower_headers ms) ms in
    e ∙ ap (λ (h : List (List ℕ)). broken_prefix_of h ms) same ∙ sym (or_none last)
    ∙ ap (λ (d : Bool). option_or (by_schema (unless d rule.DistinctHeaders)) (option_or last None)) (sym distinct ∙ ap are_distinct same)
    ∙ ap (λ (o : Option Broken). option_or o (option_or (by_schema (unless (are_distinct (lower_headers ms)) rule.DistinctHeaders)) (option_or last None))) none

pub cut-behind : (t : Template) (labels : List (List ℕ)) (count : ℕ) (r : Option Rule) → None ≡ path_rule_for t (filled_by_a t) → r ≡ hole_rule_for t (have_holes labels t) count → r ≡ cut_rule_for t labels count
cut-behind t labels count r none e =
    let last = hole_rule_for t (have_holes labels t) count in
    e ∙ sym (or_none last) ∙ ap (λ (o : Option Rule). option_or o (option_or last None)) none
