-- What is seen of a request tells the normal form's part of each member in its target or headers.
use Rattle.smithy_unambiguity.proofs.Common.{◌≡◌, refl, sym, ◌∙◌, ap, ℕ, nat_eq, codes, length, ◌==◌, Bool, true, false, ◌&&◌, ◌||◌, List, [], ◌∷◌, Option, Some, None, option_map, option_and_then, option_to_list, is_some, is_none, if◌then◌else◌, starts_with, option_map_or, str_to_ascii_lowercase, and_parts, is_token, Schema, Http, member_at, Binding, to_header, binding_of, is_outside_body, Value, Write, Header, values_at, headers, header_texts, query_names, place_at, member_text, body, is_clear, IsCheckedInput, is_header_kind, has_element, has_bound_kind, has_header_kind, has_query_kind, has_label_kind, is_placed_at, Protocol, OmitFlags, template_of, all_headers, IsTyped, writes_default, has_clear_template, member_view, bound_view_at, IsCheckedInput-from_test, SeesSame, member-passes}
use Rattle.smithy_unambiguity.proofs.LastTexts.{last_value}
use Rattle.smithy_unambiguity.proofs.Setting.{IsSetting}
use Rattle.smithy_unambiguity.proofs.ByMember.{first_value}
use Rattle.smithy_unambiguity.proofs.Defaults.{all_headers_at}
use Rattle.smithy_unambiguity.proofs.Fits.{is_flat}
use Rattle.smithy_unambiguity.proofs.HeaderNames.{headers_apart}
use Rattle.smithy_unambiguity.proofs.Conformity.{conforming}
use Rattle.smithy_unambiguity.proofs.Headers.{header_values, headers_of_member}
use Rattle.smithy_unambiguity.proofs.MemberTexts.{header_told, bound_list, list_of_element}
use Rattle.smithy_unambiguity.proofs.Placed.{HasTypedWrites, IsPlacedValue, placed_value, bound_view_of}
use Rattle.smithy_unambiguity.proofs.Requests.{IsPlacedRequest, placed_request, SeeSame, see_same}
use Rattle.smithy_unambiguity.proofs.Traits.{trait_of}
use Rattle.smithy_unambiguity.proofs.Values.{flat_value, flat_texts, flat_header}
use Rattle.smithy_unambiguity.proofs.Positions.{sound_input}

-- Two typed inputs with the same facts, in one setting.
pub record AreSeenSame (protocol : Protocol) (schema : Schema) (endpoint : List ℕ) (omit : OmitFlags) (v w : List Write) : Type 0 where
  pub setting : IsSetting protocol schema
  pub checked : IsCheckedInput schema
  pub typed_v : IsTyped protocol schema endpoint omit v
  pub typed_w : IsTyped protocol schema endpoint omit w
  pub request_v : IsPlacedRequest protocol schema v endpoint omit
  pub request_w : IsPlacedRequest protocol schema w endpoint omit
  pub seen : SeeSame protocol schema omit v w request_v.path request_w.path
  pub writes_v : HasTypedWrites schema v
  pub writes_w : HasTypedWrites schema w

pub typed_writes : (protocol : Protocol) (schema : Schema) (endpoint : List ℕ) (omit : OmitFlags) (ws : List Write) → IsTyped protocol schema endpoint omit ws → HasTypedWrites schema ws
typed_writes protocol schema endpoint omit ws typed =
    record { conforming = (conforming schema ws endpoint typed.conforming).writes; in_range = typed.in_range; bound = typed.placed_values }

pub seen_same : (protocol : Protocol) (schema : Schema) (endpoint : List ℕ) (omit : OmitFlags) (v w : List Write) → IsSetting protocol schema
    → IsTyped protocol schema endpoint omit v → IsTyped protocol schema endpoint omit w → SeesSame protocol schema endpoint omit v w → AreSeenSame protocol schema endpoint omit v w
seen_same protocol schema endpoint omit v w setting typed_v typed_w same =
    let x = placed_request protocol schema v endpoint omit typed_v.conforming in
    let y = placed_request protocol schema w endpoint omit typed_w.conforming in
    record {
      setting = setting;
      checked = IsCheckedInput-from_test schema setting.checked;
      typed_v = typed_v;
      typed_w = typed_w;
      request_v = x;
      request_w = y;
      seen = see_same protocol schema endpoint omit v w x y same;
      writes_v = typed_writes protocol schema endpoint omit v typed_v;
      writes_w = typed_writes protocol schema endpoint omit w typed_w;
    }

-- a bound member's part is told by what it leaves of the first writes
pub bound_told : (protocol : Protocol) (schema : Schema) (endpoint : List ℕ) (omit : OmitFlags) (v w : List Write) → AreSeenSame protocol schema endpoint omit v w → (i : ℕ) (m : Schema) (b : Binding)
    → member_at schema i ≡ Some m → binding_of m ≡ b → is_outside_body b ≡ true
    → option_and_then (bound_view_at b (query_names schema) m) (first_value schema v i) ≡ option_and_then (bound_view_at b (query_names schema) m) (first_value schema w i) → member_view schema v i m ≡ member_view schema w i m
bound_told protocol schema endpoint omit v w are i m b at is bound same = bound_view_of schema v i m b at is bound ∙ same ∙ sym (bound_view_of schema w i m b at is bound)

-- the template that is taken is clear
pub clear_template : (schema : Schema) (endpoint : List ℕ) → IsCheckedInput schema → has_clear_template schema endpoint ≡ true → is_clear (template_of schema endpoint) schema ≡ true
clear_template schema endpoint checked clear = go schema.node.traits.http refl checked.http clear
  where
    go : (o : Option Http) → schema.node.traits.http ≡ o
        → option_map_or (λ (h : Http). is_token h.method && is_clear h.uri schema && starts_with nat_eq h.uri (codes "/")) o true ≡ true
        → (is_some o || is_clear (option_map_or (λ (h : Http). h.uri) o (if length endpoint == 0 then codes "/" else endpoint)) schema) ≡ true
        → is_clear (option_map_or (λ (h : Http). h.uri) schema.node.traits.http (if length endpoint == 0 then codes "/" else endpoint)) schema ≡ true
    go None is sound h = ap (λ (o : Option Http). is_clear (option_map_or (λ (h : Http). h.uri) o (if length endpoint == 0 then codes "/" else endpoint)) schema) is ∙ h
    go (Some t) is sound h =
        ap (λ (o : Option Http). is_clear (option_map_or (λ (h : Http). h.uri) o (if length endpoint == 0 then codes "/" else endpoint)) schema) is
        ∙ (and_parts (is_token t.method) (is_clear t.uri schema) (and_parts (is_token t.method && is_clear t.uri schema) (starts_with nat_eq t.uri (codes "/")) sound).0).1

-- Headers.

pub header_kinds : (m : Schema) (name : List ℕ) → m.node.traits.http_header ≡ Some name → has_bound_kind m ≡ true → (is_flat m.node.kind || has_element is_header_kind m) ≡ true
header_kinds m name is kinds =
    let h = (and_parts (has_label_kind m && has_query_kind m) (has_header_kind m) kinds).1 in
    ap (λ (o : Option (List ℕ)). is_none o || is_header_kind m.node.kind || has_element is_header_kind m) (sym is) ∙ h

-- the one text of a flat value
pub one_text : (m : Schema) (v : Value) → is_flat m.node.kind ≡ true → (is : IsPlacedValue m v) → (t : List ℕ) × (is.ts ≡ t ∷ [])
one_text m v flat is = by (member_text (place_at (binding_of m)) m v) (sym (flat_texts m v (flat_value m.node.kind v flat is.value.fits)) ∙ is.texts)
  where
    by : (o : Option (List ℕ)) → option_map (λ (t : List ℕ). t ∷ []) o ≡ Some is.ts → (t : List ℕ) × (is.ts ≡ t ∷ [])
    by None e = absurd (cc e)
    by (Some t) e = let same : t ∷ [] ≡ is.ts = cc e in (t, sym same)

-- a header member's value gives one text
pub one_header_value : (m : Schema) (v : Value) → (is_flat m.node.kind || has_element is_header_kind m) ≡ true → IsPlacedValue m v → (t : List ℕ) × (header_values m v ≡ t ∷ [])
one_header_value m v kinds is = go (is_flat m.node.kind) refl kinds
  where
    there : header_values m v ≡ header_texts m v is.ts
    there = ap (λ (o : Option (List (List ℕ))). option_map_or (header_texts m v) o []) is.texts

    go : (b : Bool) → is_flat m.node.kind ≡ b → (b || has_element is_header_kind m) ≡ true → (t : List ℕ) × (header_values m v ≡ t ∷ [])
    go true flat h =
        let x = one_text m v flat is in (x.0, there ∙ flat_header m v is.ts (flat_value m.node.kind v flat is.value.fits) ∙ x.1)
    go false flat h =
        let l = list_of_element is_header_kind m h in
        let a = bound_list is_header_kind m l v is.value in
        (_, there ∙ ap (λ u. header_texts m u is.ts) a.is)

header_part : (m : Schema) (names : List (List ℕ)) (name : List ℕ) (o p : Option Value) → (is_flat m.node.kind || has_element is_header_kind m) ≡ true → place_at (binding_of m) ≡ Header
    → ((v : Value) → o ≡ Some v → IsPlacedValue m v) → ((v : Value) → p ≡ Some v → IsPlacedValue m v)
    → option_to_list (last_value (option_map_or (header_values m) o [])) ≡ option_to_list (last_value (option_map_or (header_values m) p []))
    → option_and_then (bound_view_at (to_header name) names m) o ≡ option_and_then (bound_view_at (to_header name) names m) p
header_part m names name None None kinds here is_o is_p e = refl
header_part m names name (Some v) None kinds here is_o is_p e =
    let x = one_header_value m v kinds (is_o v refl) in let q : x.0 ∷ [] ≡ [] = ap (λ vs. option_to_list (last_value vs)) (sym x.1) ∙ e in absurd (cc q)
header_part m names name None (Some w) kinds here is_o is_p e =
    let y = one_header_value m w kinds (is_p w refl) in let q : [] ≡ y.0 ∷ [] = e ∙ ap (λ vs. option_to_list (last_value vs)) y.1 in absurd (cc q)
header_part m names name (Some v) (Some w) kinds here is_o is_p e =
    let x = one_header_value m v kinds (is_o v refl) in
    let y = one_header_value m w kinds (is_p w refl) in
    let q : x.0 ∷ [] ≡ y.0 ∷ [] = ap (λ vs. option_to_list (last_value vs)) (sym x.1) ∙ e ∙ ap (λ vs. option_to_list (last_value vs)) y.1 in
    let same : x.0 ≡ y.0 = cc q in
    ap Some (header_told m v w x.0 kinds here (is_o v refl).value (is_p w refl).value x.1 (y.1 ∙ ap (λ t. t ∷ []) (sym same)))

-- no default is added at a header member's name
pub header_leaves : (protocol : Protocol) (schema : Schema) (endpoint : List ℕ) (omit : OmitFlags) (ws : List Write) (i : ℕ) (m : Schema) (name : List ℕ) → IsCheckedInput schema → IsTyped protocol schema endpoint omit ws
    → member_at schema i ≡ Some m → binding_of m ≡ to_header name
    → values_at (str_to_ascii_lowercase name) (all_headers protocol (body protocol.text_of schema ws) omit (headers schema ws)) ≡ values_at (str_to_ascii_lowercase name) (headers schema ws)
header_leaves protocol schema endpoint omit ws i m name checked typed at header =
    all_headers_at protocol (body protocol.text_of schema ws) omit (headers schema ws) (str_to_ascii_lowercase name)
    (ap (writes_default (body protocol.text_of schema ws) omit (headers schema ws)) (sym header)
    ∙ member-passes (λ m. writes_default (body protocol.text_of schema ws) omit (headers schema ws) (binding_of m)) schema i m typed.defaults at)

pub header_member_told : (protocol : Protocol) (schema : Schema) (endpoint : List ℕ) (omit : OmitFlags) (v w : List Write) → AreSeenSame protocol schema endpoint omit v w → (i : ℕ) (m : Schema) (name : List ℕ)
    → member_at schema i ≡ Some m → has_bound_kind m ≡ true → binding_of m ≡ to_header name → member_view schema v i m ≡ member_view schema w i m
header_member_told protocol schema endpoint omit v w are i m name at kinds header =
    bound_told protocol schema endpoint omit v w are i m (to_header name) at header refl
    (header_part m (query_names schema) name (first_value schema v i) (first_value schema w i) (header_kinds m name (trait_of m (to_header name) header) kinds) (ap place_at header)
    (λ u e. placed_value schema v i m u are.writes_v at (ap is_placed_at header) e) (λ u e. placed_value schema w i m u are.writes_w at (ap is_placed_at header) e)
    (sym (headers_of_member schema v i m name (headers_apart schema (sound_input schema are.checked)) at header)
    ∙ sym (header_leaves protocol schema endpoint omit v i m name are.checked are.typed_v at header)
    ∙ are.seen.headers (str_to_ascii_lowercase name)
    ∙ header_leaves protocol schema endpoint omit w i m name are.checked are.typed_w at header
    ∙ headers_of_member schema w i m name (headers_apart schema (sound_input schema are.checked)) at header))
