-- What a checked output says of its responses: where each member stands, that their headers tell members apart, and that one payload, or the unbound members, are the body.
use Rattle.smithy_served.proofs.Common.{member-in, IsCheckedOutput, has_response_body_member, is_response_bound_once, response_payload_kind, as_output, Source, in_body, in_header, in_payload, in_prefix, in_status, source_at, source_of, Traits, is_response_bound, AllByRecursion, Binding, Bool, List, None, Option, Schema, Some, and_from, and_parts, ap, are_distinct, arith, binding_at, binding_of, false, filter, filter_map, find, has_at_most_one, has_sound_headers, has_unbound_member, is_bound, is_outside_body, is_payload, is_some, is_sound_payload, is_text_map, leb-true, length, list_all, list_any, map, members_of, members_with, nat_eq, nat_le, not, option_map, payload_kind, refl, slice_get, starts_with, str_to_ascii_lowercase, subst, sym, to_header, to_label, to_payload, to_prefix, true, ℕ, ◌&&◌, ◌+◌, ◌==◌, ◌||◌, ◌∙◌, ◌≡◌, ◌≤◌, all_apply, all_from_test, HasOwnNames, IsSoundMessage, members_by_position, find_same, length-map, list_all-from_AllPass, from_bool, slice_get-map, is_token, to_body}
use Rattle.smithy_binding.specs.declared.direction.Direction.TheVariants as direction
use Rattle.smithy_served.proofs.Alike.{option_map-map, find-map, filter-map, filter_map-map, any-map, members-out}

pub names_out : (schema : Schema) → IsCheckedOutput schema → HasOwnNames schema
names_out schema checked = record { cited = checked.cited; names = checked.names }

-- Where a member of a response stands.

-- what a source says of the traits
abbrev SourceSays : Option (List ℕ) → Option (List ℕ) → Bool → Bool → Source → Type 0
SourceSays header prefix code payload (in_header name) = header ≡ Some name
SourceSays header prefix code payload (in_prefix p) = (header ≡ None) × (prefix ≡ Some p)
SourceSays header prefix code payload in_status = code ≡ true
SourceSays header prefix code payload in_payload = payload ≡ true
SourceSays header prefix code payload in_body = (is_some header || is_some prefix || code || payload) ≡ false

-- the binding that the schema of a response has there
abbrev pub binding_by : Source → Binding
binding_by (in_header name) = to_header name
binding_by (in_prefix prefix) = to_prefix prefix
binding_by in_status = to_label
binding_by in_payload = to_payload
binding_by in_body = to_body

pub record StandsIn (m : Schema) (s : Source) : Type 0 where
  pub binding : binding_of (as_output m) ≡ binding_by s
  pub bound : is_bound (as_output m) ≡ is_response_bound m
  pub says : (let t = m.node.traits in SourceSays t.http_header t.http_prefix_headers t.http_response_code t.http_payload s)

pub stands_in : (m : Schema) (s : Source) → source_of m ≡ s → StandsIn m s
stands_in m s e =
    let t = m.node.traits in
    let x = go t.http_header t.http_prefix_headers t.http_response_code t.http_payload in
    subst (StandsIn m) e (record { binding = x.0; bound = x.1.0; says = x.1.1 })
  where
    go : (header prefix : Option (List ℕ)) (code payload : Bool) → (binding_at header prefix None false code payload ≡ binding_by (source_at header prefix code payload))
        × ((is_outside_body (binding_at header prefix None false code payload) ≡ (is_some header || is_some prefix || code || payload)) × SourceSays header prefix code payload (source_at header prefix code payload))
    go (Some n) prefix code payload = (refl, (refl, refl))
    go None (Some p) code payload = (refl, (refl, (refl, refl)))
    go None None true payload = (refl, (refl, refl))
    go None None false true = (refl, (refl, refl))
    go None None false false = (refl, (refl, refl))

pub bound_out : (m : Schema) → is_bound (as_output m) ≡ is_response_bound m
bound_out m = (stands_in m (source_of m) refl).bound

-- it is the payload where it has that trait, since it has at most one
payload_out : (m : Schema) → is_response_bound_once m ≡ true → is_payload (binding_of (as_output m)) ≡ m.node.traits.http_payload
payload_out m once = let t = m.node.traits in go t.http_header t.http_prefix_headers t.http_response_code t.http_payload (leb-true _ 1 once)
  where
    go : (header prefix : Option (List ℕ)) (code payload : Bool) → from_bool (is_some header) + from_bool (is_some prefix) + from_bool code + from_bool payload ≤ 1 → is_payload (binding_at header prefix None false code payload) ≡ payload
    go None None false true few = refl
    go None None false false few = refl
    go (Some n) prefix code false few = refl
    go None (Some p) code false few = refl
    go None None true false few = refl
    go (Some n) prefix code true few = absurd (omega (arith, few))
    go None (Some p) code true few = absurd (omega (arith, few))
    go None None true true few = absurd (omega (arith, few))

-- The schema of responses is sound.

pub has_unbound_out : (schema : Schema) → has_unbound_member (as_output schema) ≡ has_response_body_member schema
has_unbound_out schema = ap (list_any (λ m. not (is_bound m))) (members-out schema) ∙ any-map (λ m. not (is_bound m)) as_output (members_of schema) ∙ (λ i. list_any (λ m. not (bound_out m i)) (members_of schema))

-- so many members as a response has them pass a test of their traits
pub count_out : (test : Traits → Bool) (schema : Schema) → has_at_most_one test (as_output schema) ≡ nat_le (length (filter (λ m. test (as_output m).node.traits) (members_of schema))) 1
count_out test schema =
    ap (λ ms. nat_le (length (filter (λ m. test m.node.traits) ms)) 1) (members-out schema)
    ∙ ap (λ ms. nat_le (length ms) 1) (filter-map (λ m. test m.node.traits) as_output (members_of schema))
    ∙ ap (λ n. nat_le n 1) (length-map (filter (λ m. test (as_output m).node.traits) (members_of schema)) as_output)

pub sound_output : (schema : Schema) → IsCheckedOutput schema → IsSoundMessage (as_output schema)
sound_output schema checked = record {
  by_position = λ i.
      ap (λ ms. slice_get ms i) (members-out schema) ∙ slice_get-map as_output (members_of schema) i
      ∙ ap (option_map as_output) (members_by_position schema checked.cited i) ∙ sym (member-in direction.Response schema i);
  headers = sound_headers ∙ checked.unlike_names;
  one_prefix_map = count_out (λ t. is_some t.http_prefix_headers) schema ∙ (and_parts (has_at_most_one (λ t. is_some t.http_prefix_headers) schema) (list_all is_text_map (members_with (λ t. is_some t.http_prefix_headers) schema)) checked.prefix_map).0;
  payload = and_from (has_at_most_one (λ t. t.http_payload) out) (is_sound_payload (payload_kind out) (has_unbound_member out)) (count_out (λ t. t.http_payload) schema ∙ tests.0) ((λ i. is_sound_payload (same_kinds i) (has_unbound_out schema i)) ∙ tests.1);
}
  where
    out : Schema
    out = as_output schema

    -- what members have that a response has alike
    names : (name : Schema → Option (List ℕ)) → filter_map name (members_of (as_output schema)) ≡ filter_map (λ m. name (as_output m)) (members_of schema)
    names name = ap (filter_map name) (members-out schema) ∙ filter_map-map name as_output (members_of schema)

    sound_headers : has_sound_headers out ≡ has_sound_headers schema
    sound_headers = λ i.
        let lower = map str_to_ascii_lowercase (names (λ m. m.node.traits.http_header) i) in
        list_all is_token lower && are_distinct lower
        && list_all (λ prefix. ((length prefix == 0) || is_token prefix) && not (list_any (λ name. starts_with nat_eq name (str_to_ascii_lowercase prefix)) lower)) (names (λ m. m.node.traits.http_prefix_headers) i)

    tests : (has_at_most_one (λ t. t.http_payload) schema ≡ true) × (is_sound_payload (response_payload_kind schema) (has_response_body_member schema) ≡ true)
    tests = and_parts (has_at_most_one (λ t. t.http_payload) schema) (is_sound_payload (response_payload_kind schema) (has_response_body_member schema)) checked.payload

    same_kinds : payload_kind out ≡ response_payload_kind schema
    same_kinds =
        ap (λ ms. option_map (λ (m : Schema). m.node.kind) (find (λ m. is_payload (binding_of m)) ms)) (members-out schema)
        ∙ ap (option_map (λ (m : Schema). m.node.kind)) (find-map (λ m. is_payload (binding_of m)) as_output (members_of schema))
        ∙ ap (λ o. option_map (λ (m : Schema). m.node.kind) (option_map as_output o)) (find_same (λ m. is_payload (binding_of (as_output m))) (λ m. m.node.traits.http_payload) (members_of schema) each)
        ∙ option_map-map (λ (m : Schema). m.node.kind) as_output (find (λ m. m.node.traits.http_payload) (members_of schema))
      where
        each : AllByRecursion (λ m. is_payload (binding_of (as_output m)) ≡ m.node.traits.http_payload) (members_of schema)
        each =
            all_apply (λ m. is_response_bound_once m ≡ true) (λ m. is_payload (binding_of (as_output m)) ≡ m.node.traits.http_payload) (members_of schema) payload_out
            (all_from_test is_response_bound_once (members_of schema) (list_all-from_AllPass is_response_bound_once (members_of schema) checked.bound_once))
