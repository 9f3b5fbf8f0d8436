-- What a response has of a header member is read as the normal form's part.
use Rattle.smithy_served.proofs.Common.{cited-in, is_element_plain, has_plain_header_elements, message_headers, as_output, keep_defaults, values_named, handed_out, has_nothing, header_route, in_header, is_plain_text, passed_over, source_of, value_read, first_value, header_values, header_view, is_trimmed, is_typed_at, listed, Bool, Header, Held, List, None, Ok, Option, Protocol, Schema, Some, Value, Write, [], and_from, and_parts, ap, binding_at, binding_of, body, each, element_text, false, fits, has_distinct_keys, has_element, has_header_kind, has_own_formats, headers, if◌then◌else◌, is_header_kind, is_in_range, is_none, is_placed_at, is_some, kind_or_none, list_all, list_of, member-passes, member_text, members_of, not, option_and_then, option_map, option_map_or, option_to_list, place_at, refl, same_format, same_kind, settled_elements, str_to_ascii_lowercase, subst, sym, text_of_key, true, with_own_elements, writes_default, ℕ, ◌&&◌, ◌||◌, ◌∙◌, ◌∷◌, ◌≡◌, all_headers_at, is_flat, headers_apart, headers_of_member, last_value, IsPlacedValue, placed_of, flat_own, flat_value, is_flat_value, list_all-from_AllPass}
use Rattle.smithy_ids.specs.declared.shape_type.ShapeType.TheVariants as kind
use Rattle.smithy_binding.specs.declared.direction.Direction.TheVariants as direction
use Rattle.smithy_serde.specs.Held as held
use Rattle.smithy_serde.specs.Values as value
use Rattle.smithy_unambiguity.proofs.HeadersTold.{one_header_value}
use Rattle.smithy_unambiguity.proofs.MemberTexts.{IsListOf, list_of_element, bound_list, list_form, listed_of, one_header}
use Rattle.smithy_served.proofs.MemberHanded.{HandsSame, read_as}
use Rattle.smithy_served.proofs.Alike.{element_told, first_value-out}
use Rattle.smithy_served.proofs.Messages.{StandsIn, stands_in}
use Rattle.smithy_served.proofs.Conforming.{IsMember, at_out, message, fitting, unfaulted, typed_value}
use Rattle.smithy_served.proofs.Scalars.{header_text, flat_back}
use Rattle.smithy_served.proofs.HeaderLists.{list_back}

-- a flat value or a list has no key twice
header_keys : (m : Schema) (u : Value) → (is_flat m.node.kind || has_element is_header_kind m) ≡ true → fits m.node.kind u ≡ true → has_distinct_keys u ≡ true
header_keys m u kinds fit = go (is_flat m.node.kind) refl kinds
  where
    flat_keys : (u : Value) → is_flat_value u ≡ true → has_distinct_keys u ≡ true
    flat_keys (value.map ws) e = absurd (cc e)
    flat_keys _ e = refl

    go : (b : Bool) → is_flat m.node.kind ≡ b → (b || has_element is_header_kind m) ≡ true → has_distinct_keys u ≡ true
    go true flat h = flat_keys u (flat_value m.node.kind u flat fit)
    go false flat h = let l = list_of_element is_header_kind m h in ap has_distinct_keys (list_form u (ap (λ k. fits k u) (sym l.kind) ∙ fit)).1

module _ (protocol : Protocol) (schema : Schema) (ws : List Write) (i : ℕ) (m : Schema) (is : IsMember protocol schema ws i m) (name : List ℕ) (header_is : source_of m ≡ in_header name) where
  stands : StandsIn m (in_header name)
  stands = stands_in m (in_header name) header_is

  kinds : (is_flat m.node.kind || has_element is_header_kind m) ≡ true
  kinds =
      ap (λ (o : Option (List ℕ)). is_none o || is_header_kind m.node.kind || has_element is_header_kind m) (sym stands.says)
      ∙ member-passes has_header_kind schema i m (list_all-from_AllPass has_header_kind (members_of schema) is.checked.kinds) is.at

  plain : is_element_plain m ≡ true
  plain =
      ap (λ (o : Option (List ℕ)). is_none o || is_element_plain m) (sym stands.says)
      ∙ member-passes has_plain_header_elements schema i m (list_all-from_AllPass has_plain_header_elements (members_of schema) is.checked.elements) is.at

  -- the texts of a value are those that a response has
  same_place : place_at (binding_of m) ≡ Header
  same_place = let t = m.node.traits in ap (λ h. place_at (binding_at h t.http_prefix_headers t.http_query t.http_query_params t.http_label t.http_payload)) stands.says

  values_out : (v : Value) → header_values (as_output m) v ≡ header_values m v
  values_out (value.scalar x) = λ j. option_map_or (λ (ts : List (List ℕ)). ts) (option_map (λ t. t ∷ []) (member_text ((ap place_at stands.binding ∙ sym same_place) j) m (value.scalar x))) []
  values_out (value.list ws) = λ j. option_map_or (λ ts. listed (element_told kind_or_none (λ e. refl) m j) ts ∷ []) (each (element_text ((ap place_at stands.binding ∙ sym same_place) j)) (list_of ws)) []
  values_out _ = refl

  -- The values of its header in a response are the texts of its first write.
  header_values_are : values_named name (message_headers protocol (as_output schema) ws keep_defaults) ≡ option_to_list (last_value (option_map_or (header_values (as_output m)) (first_value schema ws i) []))
  unfolding message_headers
  header_values_are =
      all_headers_at protocol (body protocol.text_of out ws) keep_defaults (headers out ws) (str_to_ascii_lowercase name)
      (ap (writes_default (body protocol.text_of out ws) keep_defaults (headers out ws)) (sym stands.binding)
      ∙ member-passes (λ m. writes_default (body protocol.text_of out ws) keep_defaults (headers out ws) (binding_of m)) out i (as_output m) is.typed.defaults (at_out protocol schema ws i m is))
      ∙ headers_of_member out ws i (as_output m) name (headers_apart out (message protocol schema ws i m is)) (at_out protocol schema ws i m is) stands.binding
      ∙ ap (λ o. option_to_list (last_value (option_map_or (header_values (as_output m)) o []))) (first_value-out schema ws i)
    where
      out : Schema
      out = as_output schema

  -- what is asked of its value
  module _ (u : Value) (e : first_value schema ws i ≡ Some u) where
    tests : ((not (is_plain_text m) || is_trimmed (text_of_key u)) ≡ true) × (has_own_formats m u ≡ true)
    tests = and_parts (not (is_plain_text m) || is_trimmed (text_of_key u)) (has_own_formats m u) (ap (λ s. is_typed_at s m u) (sym header_is) ∙ typed_value protocol schema ws i m is u e)

    formats_own : (v : Value) → has_own_formats (as_output m) v ≡ has_own_formats m v
    formats_own (value.list ws) = element_told (λ o. list_all (λ (w : Write). same_format w.label.time_format (option_and_then (λ (e : Schema). e.node.traits.timestamp_format) o)) (list_of ws)) (λ e. refl) m
    formats_own _ = refl

    placed : IsPlacedValue (as_output m) u
    placed =
        let there = ap is_placed_at stands.binding in
        placed_of i (as_output m) u (fitting protocol schema ws i m is u e) there (unfaulted protocol schema ws i m is u e there).0 (header_keys m u kinds) (formats_own u ∙ tests.1)

    -- its text is read as the normal form's value
    text_back : (t : List ℕ) → header_values (as_output m) u ≡ t ∷ [] → has_nothing m (t ∷ []) ≡ false → value_read m (held.header name (t ∷ [])) ≡ Ok (with_own_elements m u)
    text_back t written some = go (is_flat m.node.kind) refl kinds
      where
        go : (b : Bool) → is_flat m.node.kind ≡ b → (b || has_element is_header_kind m) ≡ true → value_read m (held.header name (t ∷ [])) ≡ Ok (with_own_elements m u)
        go true flat h =
            let flat_u = flat_value m.node.kind u flat placed.value.fits in
            let text = ap (λ b. member_text (place_at b) m u) (sym stands.binding) ∙ one_header (as_output m) u t flat_u written in
            flat_back m name t u flat (header_text m.node.traits.timestamp_format (is_some m.node.traits.media_type) m.node.kind u t flat (and_from (is_in_range u) (fits m.node.kind u) placed.value.in_range placed.value.fits) text)
            some (λ is_plain. ap (λ b. not b || is_trimmed (text_of_key u)) (sym is_plain) ∙ tests.0) ∙ ap Ok (sym (flat_own m u flat_u))
        go false flat h =
            let l = list_of_element is_header_kind m h in
            let out : IsListOf is_header_kind (as_output m) = record { element = as_output l.element; is = cited-in direction.Response m m.node.element ∙ ap (option_map as_output) l.is; passes = l.passes; kind = l.kind } in
            let a = bound_list is_header_kind (as_output m) out u placed.value in
            let x = listed_of (as_output m) (as_output l.element) a.ws t out.is (ap (header_values (as_output m)) (sym a.is) ∙ written) in
            ap (λ t. value_read m (held.header name (t ∷ []))) (sym x.is)
            ∙ list_back m l.element name a.ws x.ts l.kind l.is plain l.passes a.items a.formats (ap (λ b. each (element_text (place_at b)) (list_of a.ws)) (sym stands.binding) ∙ x.texts)
            ∙ ap (λ o. Ok (value.list (settled_elements o a.ws))) (sym l.is) ∙ ap (λ v. Ok (with_own_elements m v)) (sym a.is)

  -- The member is handed out as the normal form has it.
  pub header_handed : (h : Held) (pairs : List (List ℕ × List ℕ)) → pairs ≡ message_headers protocol (as_output schema) ws keep_defaults
      → HandsSame h (header_route m name (values_named name pairs)) m (option_and_then (header_view m) (first_value schema ws i))
  header_handed h pairs same =
      subst (λ vs. HandsSame h (header_route m name vs) m (option_and_then (header_view m) (first_value schema ws i))) (sym (ap (values_named name) same ∙ header_values_are)) (go (first_value schema ws i) refl)
    where
      by : (u : Value) (text : List ℕ) (b : Bool) → has_nothing m (text ∷ []) ≡ b → (has_nothing m (text ∷ []) ≡ false → value_read m (held.header name (text ∷ [])) ≡ Ok (with_own_elements m u))
          → HandsSame h (if b then passed_over else handed_out (held.header name (text ∷ []))) m (if b then None else Some (with_own_elements m u))
      by u text true e read = refl
      by u text false e read = read_as m (held.header name (text ∷ [])) (with_own_elements m u) (read e)

      go : (o : Option Value) → first_value schema ws i ≡ o → HandsSame h (header_route m name (option_to_list (last_value (option_map_or (header_values (as_output m)) o [])))) m (option_and_then (header_view m) o)
      go None e = refl
      go (Some u) e =
          let w = one_header_value (as_output m) u (element_told (λ o. is_flat m.node.kind || (same_kind m.node.kind kind.List && option_map_or (λ s. is_header_kind s.node.kind) o false)) (λ s. refl) m ∙ kinds) (placed u e) in
          subst (λ vs. HandsSame h (header_route m name (option_to_list (last_value vs))) m (header_view m u)) (sym w.1)
          (subst (λ vs. HandsSame h (header_route m name (w.0 ∷ [])) m (if has_nothing m vs then None else Some (with_own_elements m u))) (sym w.1 ∙ values_out u)
          (by u w.0 (has_nothing m (w.0 ∷ [])) refl (text_back u e w.0 w.1)))
