-- A header is read as what its member was written.
use Rattle.std.proofs.Common.{◌≡◌, ◌≢◌, refl, sym, ◌∙◌, ap, subst, cond, ℕ, ℤ, Bool, true, false, ◌||◌, List, [], ◌∷◌, map, Option, Some, None, Result, Ok, option_map, option_and_then, option_to_list, is_some}
use Rattle.std.specs.Option.{option_map_or}
use Rattle.std.specs.Result.{result_ok}
use Rattle.std.specs.Str.{is_utf8, str_to_ascii_lowercase}
use Rattle.std.proofs.lemmas.Bool.{and_from}
use Rattle.smithy_types.specs.Results.{each}
use Rattle.smithy_ids.specs.declared.shape_type.ShapeType.TheVariants as kind
use Rattle.smithy_ids.specs.Kinds.{same_kind}
use Rattle.smithy_ids.proofs.KindLemmas.{one_kind}
use Rattle.smithy_http.specs.DateLists.{dates_of}
use Rattle.smithy_http.specs.HeaderValues.{tokens_of}
use Rattle.smithy_http.specs.Facts.{values_at}
use Rattle.smithy_http.specs.declared.error.HttpError.{HttpError}
use Rattle.smithy_schema.specs.Nodes.{Schema, element_of, member_at, to_header, binding_of}
use Rattle.smithy_serde.specs.HeaderReads.{header_format}
use Rattle.smithy_serde.specs.Values as value
use Rattle.smithy_serde.specs.Values.{Value, Writes, Write, list_of, writes_of}
use Rattle.smithy_serde.specs.ValueRead.{write_by}
use Rattle.smithy_serde.specs.Ranges.{is_in_range}
use Rattle.smithy_serde.specs.Fits.{fits}
use Rattle.smithy_serde.specs.NormalBody.{settled_elements}
use Rattle.smithy_strings.specs.declared.wire.Place.TheVariants.{Header}
use Rattle.smithy_strings.specs.Lists.{listed}
use Rattle.smithy_strings.proofs.ReadBack.{tokens-listed}
use Rattle.smithy_strings.proofs.TimeLists.{times_are_read}
use Rattle.smithy_strings.proofs.WireTexts.{wire_utf8}
use Rattle.smithy_binding.specs.Bindings.{headers, query_names, place_at}
use Rattle.smithy_binding.specs.views.StoredTexts.{member_text, element_text}
use Rattle.smithy_binding.specs.Bodies.{body}
use Rattle.smithy_binding.specs.Checked.{IsCheckedInput, is_header_kind, has_element}
use Rattle.smithy_binding.specs.Faults.{is_placed_at}
use Rattle.smithy_binding.specs.Placing.{Protocol, OmitFlags, all_headers}
use Rattle.smithy_binding.specs.Typed.{IsTyped}
use Rattle.smithy_binding.specs.NormalForm.{member_view, with_own_elements, bound_view_at}
use Rattle.smithy_unambiguity.proofs.ByMember.{first_value}
use Rattle.smithy_unambiguity.proofs.Fits.{is_flat}
use Rattle.smithy_unambiguity.proofs.HeaderNames.{headers_apart}
use Rattle.smithy_unambiguity.proofs.HeaderTexts.{items_utf8, time_items, all_utf8}
use Rattle.smithy_unambiguity.proofs.Headers.{header_values, headers_of_member}
use Rattle.smithy_unambiguity.proofs.HeadersTold.{header_kinds, one_header_value, header_leaves, typed_writes}
use Rattle.smithy_unambiguity.proofs.LastTexts.{last_value}
use Rattle.smithy_unambiguity.proofs.MemberTexts.{IsBoundValue, one_header, list_of_element, bound_list, listed_of}
use Rattle.smithy_unambiguity.proofs.Placed.{IsPlacedValue, placed_value, bound_view_of, kinds_at}
use Rattle.smithy_unambiguity.proofs.Traits.{trait_of}
use Rattle.smithy_unambiguity.proofs.Values.{AreItems, HaveFormat, flat_value, flat_own}
use Rattle.smithy_recovery.specs.HeaderParts.{header_list, header_value, header_part, text_value, texts_value, times_value}
use Rattle.smithy_recovery.proofs.TextsBack.{text_back, flat_not_list, own_elements, texts_back}
use Rattle.smithy_unambiguity.proofs.Positions.{sound_input}

-- the elements of the member have no media type
abbrev pub HasPlainElements : Schema → Type 0
HasPlainElements m = (e : Schema) → m.node.kind ≡ kind.List → element_of m ≡ Some e → is_some e.node.traits.media_type ≡ false

-- a list of times is read from its header
times_back : (e : Schema) (ws : Writes) (ts : List (List ℕ)) → e.node.kind ≡ kind.Timestamp → AreItems e.node.kind ws → HaveFormat e.node.traits.timestamp_format ws → each (element_text Header) (list_of ws) ≡ Some ts
    → option_map (times_value e) (result_ok (dates_of (header_format e) (listed e.node.kind ts ∷ []))) ≡ Some (value.list (settled_elements (Some e) ws))
times_back e ws ts is fit own h =
    let a = time_items e.node.traits.timestamp_format Header ws ts (subst (λ k. AreItems k ws) is fit) own h in
    let read : dates_of (header_format e) (listed e.node.kind ts ∷ []) ≡ Ok a.seconds = ap (λ k. dates_of (header_format e) (listed k ts ∷ [])) is ∙ times_are_read (header_format e) a.seconds ts a.range a.texts in
    ap (λ (r : Result (List ℤ) HttpError). option_map (times_value e) (result_ok r)) read
    ∙ ap (λ vs. Some (value.list (writes_of (map (write_by e) vs)))) a.values
    ∙ ap (λ us. Some (value.list us)) (own_elements e ws (ap is_flat is) fit)

list_back : (e : Schema) (ws : Writes) (ts : List (List ℕ)) → is_flat e.node.kind ≡ true → is_some e.node.traits.media_type ≡ false → AreItems e.node.kind ws → HaveFormat e.node.traits.timestamp_format ws
    → each (element_text Header) (list_of ws) ≡ Some ts → header_list e (listed e.node.kind ts) ≡ Some (value.list (settled_elements (Some e) ws))
list_back e ws ts flat plain fit own is = go (same_kind e.node.kind kind.Timestamp) refl
  where
    text : List ℕ
    text = listed e.node.kind ts

    go : (b : Bool) → same_kind e.node.kind kind.Timestamp ≡ b
        → cond b (option_map (times_value e) (result_ok (dates_of (header_format e) (text ∷ [])))) (option_and_then (texts_value e Header) (result_ok (tokens_of (text ∷ []))))
        ≡ Some (value.list (settled_elements (Some e) ws))
    go true h = times_back e ws ts (one_kind e.node.kind kind.Timestamp h) fit own is
    go false h =
        ap (λ (r : Result (List (List ℕ)) HttpError). option_and_then (texts_value e Header) (result_ok r)) (tokens-listed e.node.kind ts other (all_utf8 ts (items_utf8 e.node.kind Header ws ts fit is)))
        ∙ texts_back e Header ws ts flat plain fit own is
      where
        other : e.node.kind ≢ kind.Timestamp
        other q = let z : true ≡ false = ap (λ k. same_kind k kind.Timestamp) (sym q) ∙ h in cc z

pub header_value_back : (m : Schema) (v : Value) (t : List ℕ) → (is_flat m.node.kind || has_element is_header_kind m) ≡ true → place_at (binding_of m) ≡ Header → HasPlainElements m → IsBoundValue m v
    → header_values m v ≡ t ∷ [] → header_value m t ≡ Some (with_own_elements m v)
header_value_back m v t kinds here plain is p = go (is_flat m.node.kind) refl kinds
  where
    go : (b : Bool) → is_flat m.node.kind ≡ b → (b || has_element is_header_kind m) ≡ true → header_value m t ≡ Some (with_own_elements m v)
    go true flat h =
        let flat_v = flat_value m.node.kind v flat is.fits in
        let text : member_text Header m v ≡ Some t = ap (λ place. member_text place m v) (sym here) ∙ one_header m v t flat_v p in
        let utf8 = wire_utf8 m.node.traits.timestamp_format (is_some m.node.traits.media_type) Header v t is.in_range text in
        ap (λ c. cond c (option_and_then (λ e. header_list e t) (element_of m)) (cond (is_utf8 t) (text_value m Header t) None)) (flat_not_list m.node.kind flat)
        ∙ ap (λ c. cond c (text_value m Header t) None) utf8
        ∙ text_back m Header v t flat (and_from (is_in_range v) (fits m.node.kind v) is.in_range is.fits) text
        ∙ ap Some (sym (flat_own m v flat_v))
    go false flat h =
        let l = list_of_element is_header_kind m h in
        let a = bound_list is_header_kind m l v is in
        let x = listed_of m l.element a.ws t l.is (ap (header_values m) (sym a.is) ∙ p) in
        let texts : each (element_text Header) (list_of a.ws) ≡ Some x.ts = ap (λ place. each (element_text place) (list_of a.ws)) (sym here) ∙ x.texts in
        ap (λ k. cond (same_kind k kind.List) (option_and_then (λ e. header_list e t) (element_of m)) (cond (is_utf8 t) (text_value m Header t) None)) l.kind
        ∙ ap (option_and_then (λ e. header_list e t)) l.is
        ∙ ap (header_list l.element) (sym x.is)
        ∙ list_back l.element a.ws x.ts l.passes (plain l.element l.kind l.is) a.items a.formats texts
        ∙ ap (λ o. Some (value.list (settled_elements o a.ws))) (sym l.is)
        ∙ ap (λ u. Some (with_own_elements m u)) (sym a.is)

-- what a request has of a header member is the normal form's part
pub header_member_back : (protocol : Protocol) (schema : Schema) (endpoint : List ℕ) (omit : OmitFlags) (ws : List Write) (i : ℕ) (m : Schema) (name : List ℕ) → IsCheckedInput schema → IsTyped protocol schema endpoint omit ws
    → member_at schema i ≡ Some m → binding_of m ≡ to_header name → HasPlainElements m
    → header_part m (values_at (str_to_ascii_lowercase name) (all_headers protocol (body protocol.text_of schema ws) omit (headers schema ws))) ≡ Some (member_view schema ws i m)
header_member_back protocol schema endpoint omit ws i m name checked typed at header plain =
    ap (header_part m) (header_leaves protocol schema endpoint omit ws i m name checked typed at header ∙ headers_of_member schema ws i m name (headers_apart schema (sound_input schema checked)) at header)
    ∙ go (first_value schema ws i) (λ u e. placed_value schema ws i m u (typed_writes protocol schema endpoint omit ws typed) at (ap is_placed_at header) e)
    ∙ ap Some (sym (bound_view_of schema ws i m (to_header name) at header refl))
  where
    kinds : (is_flat m.node.kind || has_element is_header_kind m) ≡ true
    kinds = header_kinds m name (trait_of m (to_header name) header) (kinds_at schema checked i m at)

    go : (o : Option Value) → ((u : Value) → o ≡ Some u → IsPlacedValue m u)
        → header_part m (option_to_list (last_value (option_map_or (header_values m) o []))) ≡ Some (option_and_then (bound_view_at (to_header name) (query_names schema) m) o)
    go None is = refl
    go (Some u) is =
        let x = one_header_value m u kinds (is u refl) in
        ap (λ vs. header_part m (option_to_list (last_value vs))) x.1
        ∙ ap (option_map (λ v. Some v)) (header_value_back m u x.0 kinds (ap place_at header) plain (is u refl).value x.1)
