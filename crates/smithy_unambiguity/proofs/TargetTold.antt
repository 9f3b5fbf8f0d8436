-- What is seen of a request tells the normal form's part of each label and query member.
use Rattle.smithy_unambiguity.proofs.Common.{◌≡◌, refl, sym, ◌∙◌, ap, ℕ, Bool, true, false, not, ◌&&◌, ◌||◌, List, [], ◌∷◌, Option, Some, None, option_and_then, unwrap_or, is_none, if◌then◌else◌, and_parts, found, same_kind, is_scalar, one_kind, Schema, member_at, members_of, name_of, to_query, to_label, binding_of, Value, Write, escape, AreBytes, values_at, pairs, labels, texts, query_names, place_at, has_element, has_bound_kind, has_header_kind, has_query_kind, has_label_kind, is_placed_at, has_utf8, Protocol, OmitFlags, template_of, member_view, bound_view_at, with_own_elements, unless_empty}
use Rattle.smithy_ids.specs.declared.shape_type.ShapeType.TheVariants as kind
use Rattle.smithy_serde.specs.Values as value
use Rattle.smithy_strings.proofs.Bytes.{AreBytes-from_utf8}
use Rattle.smithy_unambiguity.proofs.ByMember.{first_value, first_texts}
use Rattle.smithy_unambiguity.proofs.ByName.{found-front, front}
use Rattle.smithy_unambiguity.proofs.Fits.{is_flat}
use Rattle.smithy_unambiguity.proofs.HeaderTexts.{none_written}
use Rattle.smithy_unambiguity.proofs.HeadersTold.{AreSeenSame, bound_told, clear_template, one_text}
use Rattle.smithy_unambiguity.proofs.LabelFirst.{label_of_first}
use Rattle.smithy_unambiguity.proofs.Labels.{path_tells_labels}
use Rattle.smithy_unambiguity.proofs.MemberTexts.{query_told, query_list_told, bound_list, list_of_element}
use Rattle.smithy_unambiguity.proofs.Members.{member_in_place, names_apart, all_have_names, HasApartNames}
use Rattle.smithy_unambiguity.proofs.Placed.{IsPlacedValue, placed_value, member_among}
use Rattle.smithy_unambiguity.proofs.Positions.{members_by_position, own_names}
use Rattle.smithy_unambiguity.proofs.Queries.{query_tells_texts}
use Rattle.smithy_unambiguity.proofs.QueryNames.{pairs_of_member}
use Rattle.smithy_unambiguity.proofs.TemplateQuery.{pieces_of_template, query_leaves_path}
use Rattle.smithy_unambiguity.proofs.Traits.{trait_of}
use Rattle.smithy_unambiguity.proofs.TextsBytes.{labels_are_bytes, pairs_are_bytes}

there : (m : Schema) (v : Value) (is : IsPlacedValue m v) → unwrap_or (texts m v) [] ≡ is.ts
there m v is = ap (λ (o : Option (List (List ℕ))). unwrap_or o []) is.texts

-- Labels.

-- values of a flat kind are told by the first of their texts
flat_part : (m : Schema) (o p : Option Value) → is_flat m.node.kind ≡ true → ((v : Value) → o ≡ Some v → IsPlacedValue m v) → ((v : Value) → p ≡ Some v → IsPlacedValue m v)
    → front (first_texts m o) ≡ front (first_texts m p) → o ≡ p
flat_part m None None flat is_o is_p e = refl
flat_part m (Some v) None flat is_o is_p e =
    let is = is_o v refl in let x = one_text m v flat is in let q : Some x.0 ≡ None = sym (ap front (there m v is ∙ x.1)) ∙ e in absurd (cc q)
flat_part m None (Some w) flat is_o is_p e =
    let is = is_p w refl in let y = one_text m w flat is in let q : None ≡ Some y.0 = e ∙ ap front (there m w is ∙ y.1) in absurd (cc q)
flat_part m (Some v) (Some w) flat is_o is_p e =
    let a = is_o v refl in
    let b = is_p w refl in
    let x = one_text m v flat a in
    let y = one_text m w flat b in
    let q : Some x.0 ≡ Some y.0 = sym (ap front (there m v a ∙ x.1)) ∙ e ∙ ap front (there m w b ∙ y.1) in
    let same : x.0 ≡ y.0 = cc q in
    ap Some (query_told m v w (x.0 ∷ []) flat a.value b.value (a.texts ∙ ap Some x.1) (b.texts ∙ ap Some (y.1 ∙ ap (λ t. t ∷ []) (sym same))))

pub label_kind : (m : Schema) → m.node.traits.http_label ≡ true → has_bound_kind m ≡ true → is_flat m.node.kind ≡ true
label_kind m is kinds =
    let a = and_parts (has_label_kind m && has_query_kind m) (has_header_kind m) kinds in
    let b = and_parts (has_label_kind m) (has_query_kind m) a.0 in
    let c : is_scalar m.node.kind ≡ true = ap (λ t. not t || is_scalar m.node.kind) (sym is) ∙ b.0 in
    ap (λ t. t || same_kind m.node.kind kind.Blob) c

pub label_member_told : (protocol : Protocol) (schema : Schema) (endpoint : List ℕ) (omit : OmitFlags) (v w : List Write) → AreSeenSame protocol schema endpoint omit v w → (i : ℕ) (m : Schema)
    → member_at schema i ≡ Some m → has_bound_kind m ≡ true → binding_of m ≡ to_label → member_view schema v i m ≡ member_view schema w i m
label_member_told protocol schema endpoint omit v w are i m at kinds label =
    bound_told protocol schema endpoint omit v w are i m to_label at label refl
    (ap (option_and_then Some)
    (flat_part m (first_value schema v i) (first_value schema w i) (label_kind m (trait_of m to_label label) kinds)
    (λ u e. placed_value schema v i m u are.writes_v at (ap is_placed_at label) e) (λ u e. placed_value schema w i m u are.writes_w at (ap is_placed_at label) e)
    (sym (of_first v) ∙ told ∙ of_first w)))
  where
    apart : HasApartNames schema
    apart = names_apart schema (own_names schema are.checked) are.setting.well_made

    of_first : (ws : List Write) → found (name_of m) (labels schema ws) ≡ front (first_texts m (first_value schema ws i))
    of_first ws = found-front (name_of m) (labels schema ws) ∙ ap front (label_of_first schema apart ws i m at label)

    told : found (name_of m) (labels schema v) ≡ found (name_of m) (labels schema w)
    told =
        member_among (λ n. found (name_of n) (labels schema v) ≡ found (name_of n) (labels schema w)) (λ n. n.node.traits.http_label) (members_of schema) i m
        (path_tells_labels schema (template_of schema endpoint) (labels schema v) (labels schema w) are.request_v.path are.request_w.path
        (labels_are_bytes schema v are.writes_v.conforming are.writes_v.in_range) (labels_are_bytes schema w are.writes_w.conforming are.writes_w.in_range)
        (all_have_names (λ n. n.node.traits.http_label) schema are.setting.well_made) (clear_template schema endpoint are.checked are.typed_v.clear) are.request_v.fills are.request_w.fills
        (sym (query_leaves_path are.request_v.path (pairs schema v)) ∙ are.seen.paths ∙ query_leaves_path are.request_w.path (pairs schema w)))
        (members_by_position schema are.checked.cited i ∙ at) (trait_of m to_label label)

-- The query.

-- at each name the same texts stand
pub pairs_told : (protocol : Protocol) (schema : Schema) (endpoint : List ℕ) (omit : OmitFlags) (v w : List Write) → AreSeenSame protocol schema endpoint omit v w → (name : List ℕ) → AreBytes name
    → values_at name (pairs schema v) ≡ values_at name (pairs schema w)
pairs_told protocol schema endpoint omit v w are name bytes =
    query_tells_texts are.request_v.path are.request_w.path name (pairs schema v) (pairs schema w) bytes
    (pairs_are_bytes schema v are.setting.well_made are.writes_v.conforming are.writes_v.in_range) (pairs_are_bytes schema w are.setting.well_made are.writes_w.conforming are.writes_w.in_range)
    (pieces_of_template schema (template_of schema endpoint) (labels schema v) (labels schema w) are.request_v.path are.request_w.path (clear_template schema endpoint are.checked are.typed_v.clear) are.request_v.fills are.request_w.fills)
    (are.seen.query (escape name))

-- a list of scalars without a text is empty
no_elements : (m : Schema) (v : Value) → has_element is_scalar m ≡ true → (is : IsPlacedValue m v) → is.ts ≡ [] → unless_empty (with_own_elements m v) ≡ None
no_elements m v has is none =
    let l = list_of_element is_scalar m has in
    let a = bound_list is_scalar m l v is.value in
    let empty = none_written (place_at (binding_of m)) a.ws (ap (texts m) (sym a.is) ∙ is.texts ∙ ap Some none) in
    ap (λ u. unless_empty (with_own_elements m u)) (a.is ∙ ap value.list empty)

list_part : (m : Schema) (o p : Option Value) → has_element is_scalar m ≡ true → ((v : Value) → o ≡ Some v → IsPlacedValue m v) → ((v : Value) → p ≡ Some v → IsPlacedValue m v)
    → first_texts m o ≡ first_texts m p → option_and_then (λ v. unless_empty (with_own_elements m v)) o ≡ option_and_then (λ v. unless_empty (with_own_elements m v)) p
list_part m None None has is_o is_p e = refl
list_part m (Some v) None has is_o is_p e = let is = is_o v refl in no_elements m v has is (sym (there m v is) ∙ e)
list_part m None (Some w) has is_o is_p e = let is = is_p w refl in sym (no_elements m w has is (sym (there m w is) ∙ sym e))
list_part m (Some v) (Some w) has is_o is_p e =
    let a = is_o v refl in
    let b = is_p w refl in
    ap unless_empty (query_list_told m v w a.ts has a.value b.value a.texts (b.texts ∙ ap Some (sym (there m w b) ∙ sym e ∙ there m v a)))

pub query_kinds : (m : Schema) (name : List ℕ) → m.node.traits.http_query ≡ Some name → has_bound_kind m ≡ true → (is_scalar m.node.kind || has_element is_scalar m) ≡ true
query_kinds m name is kinds =
    let a = and_parts (has_label_kind m && has_query_kind m) (has_header_kind m) kinds in
    let b = and_parts (has_label_kind m) (has_query_kind m) a.0 in
    ap (λ (o : Option (List ℕ)). is_none o || is_scalar m.node.kind || has_element is_scalar m) (sym is) ∙ b.1

query_part : (m : Schema) (names : List (List ℕ)) (name : List ℕ) (o p : Option Value) → (is_scalar m.node.kind || has_element is_scalar m) ≡ true → ((v : Value) → o ≡ Some v → IsPlacedValue m v) → ((v : Value) → p ≡ Some v → IsPlacedValue m v)
    → first_texts m o ≡ first_texts m p → option_and_then (bound_view_at (to_query name) names m) o ≡ option_and_then (bound_view_at (to_query name) names m) p
query_part m names name o p kinds is_o is_p e = go (same_kind m.node.kind kind.List) (is_scalar m.node.kind) refl refl kinds
  where
    go : (t s : Bool) → same_kind m.node.kind kind.List ≡ t → is_scalar m.node.kind ≡ s → (s || has_element is_scalar m) ≡ true
        → option_and_then (λ v. if same_kind m.node.kind kind.List then unless_empty (with_own_elements m v) else Some v) o ≡ option_and_then (λ v. if same_kind m.node.kind kind.List then unless_empty (with_own_elements m v) else Some v) p
    go true true is_list scalar h =
        let lists = one_kind m.node.kind kind.List is_list in
        let q : true ≡ false = sym scalar ∙ ap is_scalar lists in
        absurd (cc q)
    go true false is_list scalar h = rw is_list (list_part m o p h is_o is_p e)
    go false true is_list scalar h =
        let flat : is_flat m.node.kind ≡ true = ap (λ t. t || same_kind m.node.kind kind.Blob) scalar in
        ap (option_and_then (λ v. if same_kind m.node.kind kind.List then unless_empty (with_own_elements m v) else Some v)) (flat_part m o p flat is_o is_p (ap front e))
    go false false is_list scalar h =
        let l = list_of_element is_scalar m h in
        let q : false ≡ true = sym is_list ∙ ap (λ k. same_kind k kind.List) l.kind in
        absurd (cc q)

pub query_member_told : (protocol : Protocol) (schema : Schema) (endpoint : List ℕ) (omit : OmitFlags) (v w : List Write) → AreSeenSame protocol schema endpoint omit v w → (i : ℕ) (m : Schema) (name : List ℕ)
    → member_at schema i ≡ Some m → has_bound_kind m ≡ true → binding_of m ≡ to_query name → member_view schema v i m ≡ member_view schema w i m
query_member_told protocol schema endpoint omit v w are i m name at kinds query =
    bound_told protocol schema endpoint omit v w are i m (to_query name) at query refl
    (query_part m (query_names schema) name (first_value schema v i) (first_value schema w i) (query_kinds m name (trait_of m (to_query name) query) kinds)
    (λ u e. placed_value schema v i m u are.writes_v at (ap is_placed_at query) e) (λ u e. placed_value schema w i m u are.writes_w at (ap is_placed_at query) e)
    (sym (pairs_of_member schema are.checked v i m name at query) ∙ pairs_told protocol schema endpoint omit v w are name bytes ∙ pairs_of_member schema are.checked w i m name at query))
  where
    bytes : AreBytes name
    bytes = AreBytes-from_utf8 name (ap has_utf8 (sym (trait_of m (to_query name) query)) ∙ (member_in_place schema i m are.setting.well_made at).texts.query)
