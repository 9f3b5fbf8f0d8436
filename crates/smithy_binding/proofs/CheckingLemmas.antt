-- The tests of a schema over the members that the code lists.
use Rattle.smithy_binding.proofs.Common.{◌≡◌, refl, ap, sym, ℕ, Bool, true, false, cond, ◌&&◌, List, [], ◌∷◌, filter, filter_map, Option, Some, None, nat_eq, codes, if◌then◌else◌, cons_option, starts_with, and_parts, is_token, Schema, Http, members_of, option_map_or, endpoint_or_slash, template_of, is_clear, has_named_members, has_sound_headers, has_sound_names, has_sound_http, checked_input, checked_output, is_clear_among, are_sound, are_sound_response}

-- the names of those that a test chooses
pub filter_map-filter : {X Y : Type 0} (f : X → Option Y) (p : X → Bool) (xs : List X) → filter_map f (filter p xs) ≡ filter_map (λ x. if p x then f x else None) xs
filter_map-filter f p [] = refl
filter_map-filter f p (x ∷ xs) = go (p x) (filter_map-filter f p xs)
  where
    go : (b : Bool) → filter_map f (filter p xs) ≡ filter_map (λ x. if p x then f x else None) xs
        → filter_map f (cond b (x ∷ filter p xs) (filter p xs)) ≡ cons_option (if b then f x else None) (filter_map (λ x. if p x then f x else None) xs)
    go true e = ap (cons_option (f x)) e
    go false e = e

-- the test over the members that the code lists
pub checked_input-is : (schema : Schema) → (has_named_members schema && (are_sound schema (members_of schema) && has_sound_names schema && has_sound_http schema)) ≡ checked_input schema
unfolding checked_input
checked_input-is schema = refl

pub checked_output-is : (schema : Schema) → (has_named_members schema && (are_sound_response (members_of schema) && has_sound_headers schema)) ≡ checked_output schema
unfolding checked_output
checked_output-is schema = refl

pub named-checked : (schema : Schema) → checked_input schema ≡ true → has_named_members schema ≡ true
unfolding checked_input
named-checked schema e = (and_parts (has_named_members schema) _ e).0

-- the template's test over the members that the code lists
pub is_clear-among : (schema : Schema) (text : List ℕ) → is_clear text schema ≡ is_clear_among text (members_of schema)
unfolding is_clear
is_clear-among schema text = rw (filter_map-filter (λ m. m.node.member_name) (λ m. m.node.traits.http_label) (members_of schema)) refl

-- the template of a schema is its own, where it has one
pub own-template : (schema : Schema) (h : Http) (endpoint : List ℕ) → Some h ≡ schema.node.traits.http → template_of schema endpoint ≡ h.uri
own-template schema h endpoint e = ap (λ (o : Option Http). option_map_or (λ x. x.uri) o (endpoint_or_slash endpoint)) (sym e)

pub sound-http : (schema : Schema) (h : Http) → Some h ≡ schema.node.traits.http → has_sound_http schema ≡ (is_token h.method && is_clear h.uri schema && starts_with nat_eq h.uri (codes "/"))
sound-http schema h e = rw (← e) refl

pub no-http : (schema : Schema) → None ≡ schema.node.traits.http → has_sound_http schema ≡ true
no-http schema e = rw (← e) refl
