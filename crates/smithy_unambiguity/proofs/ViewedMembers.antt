-- What the normal form has for each member is what a typed input may write to it.
use Rattle.smithy_unambiguity.proofs.Common.{◌≡◌, refl, sym, ◌∙◌, ap, subst, ℕ, Bool, true, false, not, ◌&&◌, ◌||◌, List, [], Option, Some, None, option_and_then, is_some, if◌then◌else◌, eq-eqb, list_all, option_or, str_to_ascii_lowercase, and_parts, and_from, unless, TimestampFormat, same_kind, is_scalar, Schema, element_of, member_at, Binding, to_header, to_query, to_label, to_payload, to_body, binding_of, is_outside_body, is_bound, ShapeType, Value, Writes, no_writes, write, Write, list_of, fits, fits_member, is_null, is_in_range, are_writes_in_range, is_shaped, settled, settled_elements, inserted_at, texts, query_names, kind_or_none, pairs_with, place_at, is_payload, is_codec_kind, has_bound_kind, has_element, is_header_kind, same_format, no_year, item_fault, element_fault, wrong_item_kind, key_fault, pairs_fault, is_placed_at, member_view, bound_view_at, unless_empty, is_empty_value, with_own_elements, is_one_of, has_distinct_keys, has_own_formats, has_no_default_name, default_names, ⊎_elim}
use Rattle.smithy_serde.specs.Values as value
use Rattle.smithy_ids.specs.declared.shape_type.ShapeType.TheVariants as kind
use Rattle.smithy_unambiguity.proofs.ByMember.{at_member, first_value}
use Rattle.smithy_unambiguity.proofs.Conforming.{conforming_bound}
use Rattle.smithy_unambiguity.proofs.Settled.{shaped_fits}
use Rattle.smithy_unambiguity.proofs.Placed.{HasTypedWrites, IsPlacedValue, placed_value, bound_view_of, first_found}
use Rattle.smithy_unambiguity.proofs.Settled.{shaped_range}
use Rattle.smithy_unambiguity.proofs.Fits.{is_flat}
use Rattle.smithy_unambiguity.proofs.MemberTexts.{IsBoundValue, IsListOf, bound_list, list_of_element}
use Rattle.smithy_unambiguity.proofs.Values.{AreItems, flat_value, flat_settled, flat_own}
use Rattle.smithy_unambiguity.proofs.Traits.{trait_of}
use Rattle.smithy_unambiguity.proofs.HeadersTold.{header_kinds}
use Rattle.smithy_unambiguity.proofs.TargetTold.{query_kinds}
use Rattle.smithy_unambiguity.proofs.ViewParts.{no_list}
use Rattle.smithy_unambiguity.proofs.ViewValues.{list_texts_kept, header_kept}
use Rattle.smithy_unambiguity.proofs.ViewTyped.{IsViewed}

-- a value in the body
pub free_viewed : (m : Schema) (u : Value) → binding_of m ≡ to_body → is_shaped (Some m) u ≡ true → IsViewed m u
free_viewed m u in_body shaped =
    record {
      fits =
          ⊎_elim (λ null. ap (fits_member m) null ∙ ap (λ b. false || (true && not b)) free)
          (λ fit. ap (λ t. t || (is_null u && not (is_bound m))) (and_parts (is_in_range u) (fits m.node.kind u) fit).1) (shaped_fits (Some m) u shaped);
      in_range = shaped_range (Some m) u shaped;
      fault = λ placed. let q : true ≡ false = sym placed ∙ ap is_placed_at in_body in absurd (cc q);
      typed = ap (λ b. not (is_placed_at b) || (has_distinct_keys u && has_own_formats m u)) in_body;
      unlike = ap (λ b. has_no_default_name b (at_member 0 m u)) in_body ∙ nothing;
      codec = ap (λ b. not (is_payload b && is_codec_kind m.node.kind) || is_shaped (Some m) u) in_body;
    }
  where
    free : is_bound m ≡ false
    free = ap is_outside_body in_body

    nothing : has_no_default_name to_body (at_member 0 m u) ≡ true
    nothing = ap (λ b. list_all (λ (p : List ℕ × List ℕ). not (is_one_of p.0 default_names)) (inserted_at b m u)) in_body

-- a placed member is no payload
no_payload : (b : Binding) → is_placed_at b ≡ true → is_payload b ≡ false
no_payload to_payload q = absurd (cc q)
no_payload _ q = refl

-- a value that stays as it is
pub kept_viewed : (schema : Schema) (ws : List Write) (i : ℕ) (m : Schema) (v : Value) → HasTypedWrites schema ws → (unlike : has_no_default_name (binding_of m) (at_member 0 m v) ≡ true) → member_at schema i ≡ Some m → is_placed_at (binding_of m) ≡ true → first_value schema ws i ≡ Some v → IsViewed m v
kept_viewed schema ws i m v typed unlike at placed e =
    let is = placed_value schema ws i m v typed at placed e in
    record {
      fits = ap (λ t. t || (is_null v && not (is_bound m))) is.value.fits;
      in_range = is.value.in_range;
      fault = λ p. conforming_bound schema ws typed.conforming i (at_member i m v) (first_found schema ws i m v at e) placed;
      typed = ap (λ t. not t || (has_distinct_keys v && has_own_formats m v)) placed ∙ and_from (has_distinct_keys v) (has_own_formats m v) is.keys is.value.formats;
      unlike = unlike;
      codec = ap (λ t. not (t && is_codec_kind m.node.kind) || is_shaped (Some m) v) (no_payload (binding_of m) placed);
    }

-- an option that a value was made of
pub record WasMade (f : Value → Option Value) (o : Option Value) (u : Value) : Type 0 where
  pub from : Value
  pub is : o ≡ Some from
  pub gives : f from ≡ Some u

pub was_made : (f : Value → Option Value) (o : Option Value) (u : Value) → option_and_then f o ≡ Some u → WasMade f o u
was_made f None u e = absurd (cc e)
was_made f (Some v) u e = record { from = v; is = refl; gives = e }

pub some_left : (v u : Value) → unless_empty v ≡ Some u → v ≡ u
some_left v u e = go (is_empty_value v) e
  where
    go : (t : Bool) → (if t then None else Some v) ≡ Some u → v ≡ u
    go true h = absurd (cc h)
    go false h = cc h

-- the write that a bound member's part was made of
pub bound_made : (schema : Schema) (ws : List Write) (i : ℕ) (m : Schema) (u : Value) (b : Binding) → member_at schema i ≡ Some m → binding_of m ≡ b → is_outside_body b ≡ true → member_view schema ws i m ≡ Some u
    → WasMade (bound_view_at b (query_names schema) m) (first_value schema ws i) u
bound_made schema ws i m u b at is outside e =
    was_made (bound_view_at b (query_names schema) m) (first_value schema ws i) u (sym (bound_view_of schema ws i m b at is outside) ∙ e)

-- where nothing is inserted, nothing has a default's name
pub inserts_nothing : (m : Schema) (u : Value) (b : Binding) → binding_of m ≡ b → inserted_at b m u ≡ [] → list_all (λ (p : List ℕ × List ℕ). not (is_one_of p.0 default_names)) (inserted_at (binding_of m) m u) ≡ true
inserts_nothing m u b is none = ap (λ c. list_all (λ (p : List ℕ × List ℕ). not (is_one_of p.0 default_names)) (inserted_at c m u)) is ∙ ap (list_all (λ (p : List ℕ × List ℕ). not (is_one_of p.0 default_names))) none

pub label_viewed : (schema : Schema) (ws : List Write) (i : ℕ) (m : Schema) (u : Value) → HasTypedWrites schema ws → member_at schema i ≡ Some m → binding_of m ≡ to_label → member_view schema ws i m ≡ Some u → IsViewed m u
label_viewed schema ws i m u typed at label e =
    let x = bound_made schema ws i m u to_label at label refl e in
    let same : x.from ≡ u = cc x.gives in
    kept_viewed schema ws i m u typed (ap (λ c. has_no_default_name c (at_member 0 m u)) label ∙ inserts_nothing m u to_label label refl) at (ap is_placed_at label) (x.is ∙ ap Some same)

-- Lists.

items_settled : (m : Schema) (e : Schema) (k : ShapeType) (ws : Writes) → is_flat k ≡ true → AreItems k ws → (element_fault m k (settled_elements (Some e) ws) ≡ None) × (are_writes_in_range (settled_elements (Some e) ws) ≡ true)
items_settled m e k no_writes flat fit = (refl, refl)
items_settled m e k (write l v ws) flat fit =
    let parts = and_parts (is_in_range v) (fits k v) fit.0 in
    let same : settled (Some e) v ≡ v = flat_settled (Some e) v (flat_value k v flat parts.1) in
    let rest = items_settled m e k ws flat fit.1 in (
      ap (λ x. option_or (unless (fits k x) (wrong_item_kind m k x)) (element_fault m k (settled_elements (Some e) ws))) same ∙ ap (λ t. option_or (unless t (wrong_item_kind m k v)) (element_fault m k (settled_elements (Some e) ws))) parts.1 ∙ rest.0,
      and_from (is_in_range (settled (Some e) v)) (are_writes_in_range (settled_elements (Some e) ws)) (ap is_in_range same ∙ parts.0) rest.1,
    )

own_formats : (e : Schema) (ws : Writes) → list_all (λ (w : Write). same_format w.label.time_format e.node.traits.timestamp_format) (list_of (settled_elements (Some e) ws)) ≡ true
own_formats e no_writes = refl
own_formats e (write l v ws) =
    and_from (same_format e.node.traits.timestamp_format e.node.traits.timestamp_format) (list_all (λ (w : Write). same_format w.label.time_format e.node.traits.timestamp_format) (list_of (settled_elements (Some e) ws)))
    (format_again e.node.traits.timestamp_format) (own_formats e ws)
  where
    format_again : (f : Option TimestampFormat) → same_format f f ≡ true
    format_again None = refl
    format_again (Some f) = eq-eqb _ _ refl

-- a list with its own elements, bound where a list may stand
pub list_viewed : (test : ShapeType → Bool) (m : Schema) (v : Value) (l : IsListOf test m) → is_flat l.element.node.kind ≡ true → IsPlacedValue m v → IsBoundValue m (with_own_elements m v)
list_viewed test m v l flat is =
    let b = bound_list test m l v is.value in
    let own : with_own_elements m v ≡ value.list (settled_elements (Some l.element) b.ws) = ap (with_own_elements m) b.is ∙ ap (λ (o : Option Schema). value.list (settled_elements o b.ws)) l.is in
    let x = items_settled m l.element l.element.node.kind b.ws flat b.items in
    let fault : item_fault m (value.list (settled_elements (Some l.element) b.ws)) ≡ None = ap (λ (o : Option Schema). element_fault m (kind_or_none o) (settled_elements (Some l.element) b.ws)) l.is ∙ x.0 in
    let formats : has_own_formats m (value.list (settled_elements (Some l.element) b.ws)) ≡ true =
    ap (λ (o : Option Schema). list_all (λ (w : Write). same_format w.label.time_format (option_and_then (λ (s : Schema). s.node.traits.timestamp_format) o)) (list_of (settled_elements (Some l.element) b.ws))) l.is ∙ own_formats l.element b.ws in
    subst (IsBoundValue m) (sym own) (record { fits = ap (λ k. fits k (value.list (settled_elements (Some l.element) b.ws))) l.kind; in_range = x.1; items = fault; formats = formats })

-- A placed value, from its parts.

pub placed_viewed : (m : Schema) (u : Value) (ts : List (List ℕ)) → is_placed_at (binding_of m) ≡ true → IsBoundValue m u → has_distinct_keys u ≡ true → key_fault m u ≡ None → texts m u ≡ Some ts
    → pairs_fault m (inserted_at (binding_of m) m u) ≡ None → has_no_default_name (binding_of m) (at_member 0 m u) ≡ true → IsViewed m u
placed_viewed m u ts placed is keys paired there headers unlike =
    record {
      fits = ap (λ t. t || (is_null u && not (is_bound m))) is.fits;
      in_range = is.in_range;
      fault = λ p.
          ap (λ o. option_or o (pairs_fault m (inserted_at (binding_of m) m u)))
          (ap (λ o. option_or o (option_or (key_fault m u) (unless (is_some (texts m u)) no_year))) is.items ∙ ap (λ o. option_or o (unless (is_some (texts m u)) no_year)) paired
          ∙ ap (λ (o : Option (List (List ℕ))). unless (is_some o) no_year) there)
          ∙ headers;
      typed = ap (λ t. not t || (has_distinct_keys u && has_own_formats m u)) placed ∙ and_from (has_distinct_keys u) (has_own_formats m u) keys is.formats;
      unlike = unlike;
      codec = ap (λ t. not (t && is_codec_kind m.node.kind) || is_shaped (Some m) u) (no_payload (binding_of m) placed);
    }

pub query_viewed : (schema : Schema) (ws : List Write) (i : ℕ) (m : Schema) (name : List ℕ) (u : Value) → HasTypedWrites schema ws → has_bound_kind m ≡ true → member_at schema i ≡ Some m → binding_of m ≡ to_query name → member_view schema ws i m ≡ Some u → IsViewed m u
query_viewed schema ws i m name u typed kinds at query e = go (same_kind m.node.kind kind.List) refl x.gives
  where
    x : WasMade (bound_view_at (to_query name) (query_names schema) m) (first_value schema ws i) u
    x = bound_made schema ws i m u (to_query name) at query refl e

    placed : is_placed_at (binding_of m) ≡ true
    placed = ap is_placed_at query

    is : IsPlacedValue m x.from
    is = placed_value schema ws i m x.from typed at placed x.is

    unlike : (w : Value) → has_no_default_name (binding_of m) (at_member 0 m w) ≡ true
    unlike w = ap (λ c. has_no_default_name c (at_member 0 m w)) query ∙ inserts_nothing m w (to_query name) query refl

    go : (t : Bool) → same_kind m.node.kind kind.List ≡ t → (if t then unless_empty (with_own_elements m x.from) else Some x.from) ≡ Some u → IsViewed m u
    go false q h = let same : x.from ≡ u = cc h in kept_viewed schema ws i m u typed (unlike u) at placed (x.is ∙ ap Some same)
    go true q h = by (is_scalar m.node.kind) refl (query_kinds m name (trait_of m (to_query name) query) kinds)
      where
        by : (s : Bool) → is_scalar m.node.kind ≡ s → (s || has_element is_scalar m) ≡ true → IsViewed m u
        by true scalar has = absurd (no_list m.node.kind scalar q)
        by false scalar has =
            let l = list_of_element is_scalar m has in
            let flat : is_flat l.element.node.kind ≡ true = ap (λ t. t || same_kind l.element.node.kind kind.Blob) l.passes in
            let b = bound_list is_scalar m l x.from is.value in
            let own : with_own_elements m x.from ≡ value.list (settled_elements (element_of m) b.ws) = ap (with_own_elements m) b.is in
            let shown : IsViewed m (with_own_elements m x.from) =
            placed_viewed m (with_own_elements m x.from) is.ts placed (list_viewed is_scalar m x.from l flat is) (ap has_distinct_keys own) (ap (key_fault m) own) (list_texts_kept is_scalar m x.from l flat b ∙ is.texts)
            (ap (λ c. pairs_fault m (inserted_at c m (with_own_elements m x.from))) query) (unlike (with_own_elements m x.from)) in
            subst (IsViewed m) (some_left (with_own_elements m x.from) u h) shown

pub header_viewed : (schema : Schema) (ws : List Write) (i : ℕ) (m : Schema) (name : List ℕ) (u : Value) → HasTypedWrites schema ws → has_bound_kind m ≡ true → member_at schema i ≡ Some m → binding_of m ≡ to_header name → member_view schema ws i m ≡ Some u → IsViewed m u
header_viewed schema ws i m name u typed kinds at header e = go (is_flat m.node.kind) refl wide
  where
    x : WasMade (bound_view_at (to_header name) (query_names schema) m) (first_value schema ws i) u
    x = bound_made schema ws i m u (to_header name) at header refl e

    gives : with_own_elements m x.from ≡ u
    gives = let h : Some (with_own_elements m x.from) ≡ Some u = x.gives in cc h

    placed : is_placed_at (binding_of m) ≡ true
    placed = ap is_placed_at header

    is : IsPlacedValue m x.from
    is = placed_value schema ws i m x.from typed at placed x.is

    unlike : (w : Value) → has_no_default_name (binding_of m) (at_member 0 m w) ≡ true
    unlike w = ap (λ c. has_no_default_name c (at_member 0 m w)) header

    wide : (is_flat m.node.kind || has_element is_header_kind m) ≡ true
    wide = header_kinds m name (trait_of m (to_header name) header) kinds

    headers : pairs_fault m (inserted_at (binding_of m) m (with_own_elements m x.from)) ≡ None
    headers =
        ap (λ c. pairs_fault m (inserted_at c m (with_own_elements m x.from))) header
        ∙ ap (λ vs. pairs_fault m (pairs_with (str_to_ascii_lowercase name) vs)) (header_kept m x.from wide (ap place_at header) is.value)
        ∙ ap (λ c. pairs_fault m (inserted_at c m x.from)) (sym header) ∙ is.headers

    go : (t : Bool) → is_flat m.node.kind ≡ t → (t || has_element is_header_kind m) ≡ true → IsViewed m u
    go true flat has =
        let same : x.from ≡ u = sym (flat_own m x.from (flat_value m.node.kind x.from flat is.value.fits)) ∙ gives in
        kept_viewed schema ws i m u typed (unlike u) at placed (x.is ∙ ap Some same)
    go false flat has =
        let l = list_of_element is_header_kind m has in
        let b = bound_list is_header_kind m l x.from is.value in
        let own : with_own_elements m x.from ≡ value.list (settled_elements (element_of m) b.ws) = ap (with_own_elements m) b.is in
        subst (IsViewed m) gives
        (placed_viewed m (with_own_elements m x.from) is.ts placed (list_viewed is_header_kind m x.from l l.passes is) (ap has_distinct_keys own) (ap (key_fault m) own)
        (list_texts_kept is_header_kind m x.from l l.passes b ∙ is.texts) headers (unlike (with_own_elements m x.from)))
