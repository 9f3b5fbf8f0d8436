-- The query is read as what its members were written.
use Rattle.std.proofs.Common.{◌≡◌, refl, sym, ◌∙◌, ap, cond, ℕ, Bool, true, false, ◌||◌, ◌&&◌, List, [], ◌∷◌, ◌++◌, map, Option, Some, None, Ok, option_map, option_and_then, unwrap_or, if◌then◌else◌, ne_eqb, not}
use Rattle.std.proofs.Math.Seq.{drop-append_seam}
use Rattle.std.specs.List.{AllByRecursion}
use Rattle.std.specs.Str.{is_utf8}
use Rattle.std.proofs.lemmas.Bool.{and_parts, and_from, not-true}
use Rattle.std.proofs.lemmas.List.{append_assoc, append-nil}
use Rattle.std.proofs.lemmas.Str.{IsUtf8-from_is_utf8}
use Rattle.smithy_types.specs.Texts.{found, has_byte}
use Rattle.smithy_types.specs.Results.{each}
use Rattle.smithy_ids.specs.declared.shape_type.ShapeType.TheVariants as kind
use Rattle.smithy_ids.specs.Kinds.{same_kind, is_scalar}
use Rattle.smithy_http.specs.Facts.{values_at, query_pieces}
use Rattle.smithy_schema.specs.Nodes.{Schema, element_of, member_at, to_query, binding_of}
use Rattle.smithy_schema.specs.Templates.{Piece, Template, pieces}
use Rattle.smithy_serde.specs.Values as value
use Rattle.smithy_serde.specs.Values.{Value, Write, Writes, no_writes, write, list_of}
use Rattle.smithy_serde.specs.Ranges.{is_in_range}
use Rattle.smithy_serde.specs.Fits.{fits}
use Rattle.smithy_serde.specs.NormalBody.{settled_elements}
use Rattle.smithy_strings.specs.declared.wire.Place.TheVariants.{Query}
use Rattle.smithy_strings.specs.Escapes.{escape, unescaped, AreBytes}
use Rattle.smithy_strings.proofs.UnescapeLaws.{unescaped-escape}
use Rattle.smithy_binding.specs.Bindings.{pairs, texts, query_names, place_at}
use Rattle.smithy_binding.specs.views.StoredTexts.{member_text, element_text}
use Rattle.smithy_binding.specs.Checked.{IsCheckedInput, has_element}
use Rattle.smithy_binding.specs.Clear.{is_clear, are_whole_segments, ends_segment, begins_segment}
use Rattle.smithy_binding.specs.Faults.{is_placed_at}
use Rattle.smithy_binding.specs.Filling.{fill, fill_rest}
use Rattle.smithy_binding.specs.Placing.{pair_text, with_query}
use Rattle.smithy_binding.specs.NormalForm.{member_view, with_own_elements, unless_empty, bound_view_at}
use Rattle.smithy_unambiguity.proofs.ByMember.{first_value, first_texts}
use Rattle.smithy_unambiguity.proofs.Cuts.{HasNo}
use Rattle.smithy_unambiguity.proofs.Fits.{is_flat}
use Rattle.smithy_unambiguity.proofs.HeaderTexts.{none_written}
use Rattle.smithy_unambiguity.proofs.Labels.{filled_path}
use Rattle.smithy_unambiguity.proofs.MemberTexts.{IsBoundValue, list_of_element, bound_list}
use Rattle.smithy_unambiguity.proofs.Paths.{HasNo-from_has_byte}
use Rattle.smithy_unambiguity.proofs.Placed.{HasTypedWrites, IsPlacedValue, placed_value, bound_view_of, kinds_at}
use Rattle.smithy_unambiguity.proofs.Queries.{pieces_at}
use Rattle.smithy_unambiguity.proofs.QueryNames.{pairs_of_member}
use Rattle.smithy_unambiguity.proofs.Reserved.{equals, HasNo-escape}
use Rattle.smithy_unambiguity.proofs.TargetTold.{query_kinds}
use Rattle.smithy_unambiguity.proofs.TemplateQuery.{pieces_behind, own_pieces, rest_pieces}
use Rattle.smithy_unambiguity.proofs.TextsBytes.{AreUtf8}
use Rattle.smithy_unambiguity.proofs.Traits.{trait_of}
use Rattle.smithy_unambiguity.proofs.Values.{flat_value, flat_texts}
use Rattle.smithy_recovery.specs.HeaderParts.{texts_value}
use Rattle.smithy_recovery.specs.QueryParts.{behind_equals, piece_text, last_literal, own_query, pieces_named, query_texts, query_scalar, query_part}
use Rattle.smithy_recovery.proofs.HeadersBack.{HasPlainElements}
use Rattle.smithy_recovery.proofs.TextsBack.{text_back, flat_not_list, texts_back}

-- The pieces.

behind_cut : (xs rest : List ℕ) → HasNo 61 xs → behind_equals (xs ++ 61 ∷ rest) ≡ Some rest
behind_cut [] rest none = refl
behind_cut (b ∷ xs) rest none = ap (λ t. cond t (Some (xs ++ 61 ∷ rest)) (behind_equals (xs ++ 61 ∷ rest))) (ne_eqb b 61 none.0) ∙ behind_cut xs rest none.1

-- the text of a pair is taken back
pair_back : (name text : List ℕ) → is_utf8 text ≡ true → piece_text (pair_text (name, text)) ≡ Some text
pair_back name text utf8 =
    ap piece_text (append_assoc (escape name) (61 ∷ []) (escape text))
    ∙ ap (option_and_then unescaped) (behind_cut (escape name) (escape text) (HasNo-escape 61 equals name))
    ∙ unescaped-escape text (IsUtf8-from_is_utf8 text utf8)

pub pairs_back : (name : List ℕ) (ts : List (List ℕ)) → AreUtf8 ts → each piece_text (map (λ t. pair_text (name, t)) ts) ≡ Some ts
pairs_back name [] all = refl
pairs_back name (t ∷ ts) all =
    λ i. option_and_then (λ y. option_map (λ ys. y ∷ ys) (pairs_back name ts all.1 i)) (pair_back name t all.0 i)

-- the query of a filled template is that of its last literal
last_pieces : (literal : List ℕ) (ps : List Piece) (p : Piece) → own_pieces (p ∷ ps) ≡ query_pieces (last_literal literal (p ∷ ps))
unfolding own_pieces
last_pieces literal [] p = refl
last_pieces literal (q ∷ ps) p = last_pieces p.literal ps q

pub filled_pieces : (schema : Schema) (template : List ℕ) (labels : List (List ℕ × List ℕ)) (path : List ℕ) → is_clear template schema ≡ true → fill (pieces template) labels ≡ Ok path → query_pieces path ≡ own_query (pieces template)
unfolding is_clear
filled_pieces schema template labels path clear e =
    let t = pieces template in
    let a = and_parts _ _ clear in
    let b = and_parts _ _ a.0 in
    let d = and_parts _ (are_whole_segments t.first t.rest) (and_parts _ _ b.0).0 in
    let f = filled_path t labels path e in
    ap query_pieces f.is ∙ go t t.rest d.1 f.fills
  where
    go : (t : Template) (ps : List Piece) {rest : List ℕ} → are_whole_segments t.first ps ≡ true → fill_rest (λ name. found name labels) ps ≡ Ok rest → query_pieces (t.first ++ rest) ≡ query_pieces (last_literal t.first ps)
    go t [] {rest} s h = let same : [] ≡ rest = cc h in ap (λ r. query_pieces (t.first ++ r)) (sym same) ∙ ap query_pieces (append-nil t.first)
    go t (p ∷ ps) {rest} s h =
        let x = and_parts (ends_segment t.first && begins_segment p.literal) (are_whole_segments p.literal ps) s in
        let y = and_parts (ends_segment t.first) (begins_segment p.literal) x.0 in
        let z = and_parts _ (not (has_byte 63 t.first)) y.0 in
        let none = HasNo-from_has_byte 63 t.first (not-true (has_byte 63 t.first) z.1) in
        pieces_behind t.first rest none ∙ rest_pieces t.first (p ∷ ps) labels rest s h ∙ last_pieces t.first ps p

-- the texts under a name are read back
pub query_texts_back : (schema : Schema) (template : List ℕ) (labels : List (List ℕ × List ℕ)) (path name : List ℕ) (ps : List (List ℕ × List ℕ)) → is_clear template schema ≡ true → fill (pieces template) labels ≡ Ok path
    → AreBytes name → AllByRecursion (λ p. AreBytes p.0) ps → AreUtf8 (values_at name ps)
    → query_texts (pieces template) (pieces_named (escape name) (query_pieces (with_query path ps))) name ≡ Some (values_at name ps)
query_texts_back schema template labels path name ps clear fills bytes all utf8 =
    let own = ap (pieces_named (escape name)) (filled_pieces schema template labels path clear fills) in
    let shown = pieces_at path name ps bytes all ∙ ap (λ xs. xs ++ map (λ t. pair_text (name, t)) (values_at name ps)) own in
    ap (λ xs. query_texts (pieces template) xs name) shown
    ∙ ap (each piece_text) (drop-append_seam (pieces_named (escape name) (own_query (pieces template))) (map (λ t. pair_text (name, t)) (values_at name ps)))
    ∙ pairs_back name (values_at name ps) utf8

-- The value.

scalar_part : (m : Schema) (u : Value) (ts : List (List ℕ)) → is_flat m.node.kind ≡ true → place_at (binding_of m) ≡ Query → IsBoundValue m u → texts m u ≡ Some ts → query_part m ts ≡ Some (Some u)
scalar_part m u ts flat here is e = go (member_text (place_at (binding_of m)) m u) refl (sym (flat_texts m u (flat_value m.node.kind u flat is.fits)) ∙ e)
  where
    go : (o : Option (List ℕ)) → member_text (place_at (binding_of m)) m u ≡ o → option_map (λ (t : List ℕ). t ∷ []) o ≡ Some ts → query_part m ts ≡ Some (Some u)
    go None at h = absurd (cc h)
    go (Some t) at h =
        let same : t ∷ [] ≡ ts = cc h in
        ap (query_part m) (sym same)
        ∙ ap (λ b. option_map (λ v. Some v) (cond b (option_and_then (λ e. texts_value e Query (t ∷ [])) (element_of m)) (query_scalar m (t ∷ [])))) (flat_not_list m.node.kind flat)
        ∙ ap (option_map (λ v. Some v)) (text_back m Query u t flat (and_from (is_in_range u) (fits m.node.kind u) is.in_range is.fits) (ap (λ place. member_text place m u) (sym here) ∙ at))

-- the texts of a list as its part of the normal form
listed_part : (m e : Schema) (ws : Writes) (ts : List (List ℕ)) → m.node.kind ≡ kind.List → element_of m ≡ Some e → each (element_text Query) (list_of ws) ≡ Some ts → texts_value e Query ts ≡ Some (value.list (settled_elements (Some e) ws))
    → query_part m ts ≡ Some (unless_empty (value.list (settled_elements (Some e) ws)))
listed_part m e ws [] is_list at h back = ap (λ (us : Writes). Some (unless_empty (value.list (settled_elements (Some e) us)))) (sym (none_written Query ws h))
listed_part m e no_writes (t ∷ ts) is_list at h back = let q : [] ≡ t ∷ ts = cc h in absurd (cc q)
listed_part m e (write l v ws) (t ∷ ts) is_list at h back =
    ap (λ k. option_map (λ u. Some u) (cond (same_kind k kind.List) (option_and_then (λ e. texts_value e Query (t ∷ ts)) (element_of m)) (query_scalar m (t ∷ ts)))) is_list
    ∙ ap (λ o. option_map (λ u. Some u) (option_and_then (λ e. texts_value e Query (t ∷ ts)) o)) at
    ∙ ap (option_map (λ u. Some u)) back

list_part : (m : Schema) (u : Value) (ts : List (List ℕ)) → has_element is_scalar m ≡ true → place_at (binding_of m) ≡ Query → HasPlainElements m → IsBoundValue m u → texts m u ≡ Some ts
    → query_part m ts ≡ Some (unless_empty (with_own_elements m u))
list_part m u ts has here plain is e =
    let l = list_of_element is_scalar m has in
    let a = bound_list is_scalar m l u is in
    let written : each (element_text Query) (list_of a.ws) ≡ Some ts = ap (λ place. each (element_text place) (list_of a.ws)) (sym here) ∙ ap (texts m) (sym a.is) ∙ e in
    let flat : is_flat l.element.node.kind ≡ true = ap (λ t. t || same_kind l.element.node.kind kind.Blob) l.passes in
    listed_part m l.element a.ws ts l.kind l.is written (texts_back l.element Query a.ws ts flat (plain l.element l.kind l.is) a.items a.formats written)
    ∙ ap (λ o. Some (unless_empty (value.list (settled_elements o a.ws)))) (sym l.is)
    ∙ ap (λ v. Some (unless_empty (with_own_elements m v))) (sym a.is)

-- what a request has of a query member is the normal form's part
pub query_member_back : (schema : Schema) (ws : List Write) (i : ℕ) (m : Schema) (name : List ℕ) → IsCheckedInput schema → HasTypedWrites schema ws → member_at schema i ≡ Some m → binding_of m ≡ to_query name → HasPlainElements m
    → query_part m (values_at name (pairs schema ws)) ≡ Some (member_view schema ws i m)
query_member_back schema ws i m name checked typed at query plain =
    ap (query_part m) (pairs_of_member schema checked ws i m name at query)
    ∙ go (first_value schema ws i) (λ u e. placed_value schema ws i m u typed at (ap is_placed_at query) e)
    ∙ ap Some (sym (bound_view_of schema ws i m (to_query name) at query refl))
  where
    kinds : (is_scalar m.node.kind || has_element is_scalar m) ≡ true
    kinds = query_kinds m name (trait_of m (to_query name) query) (kinds_at schema checked i m at)

    shown : (u : Value) (ts : List (List ℕ)) → IsBoundValue m u → texts m u ≡ Some ts → (s : Bool) → is_scalar m.node.kind ≡ s → (s || has_element is_scalar m) ≡ true
        → query_part m ts ≡ Some (if same_kind m.node.kind kind.List then unless_empty (with_own_elements m u) else Some u)
    shown u ts is e true scalar h =
        let flat : is_flat m.node.kind ≡ true = ap (λ t. t || same_kind m.node.kind kind.Blob) scalar in
        scalar_part m u ts flat (ap place_at query) is e ∙ ap (λ b. Some (if b then unless_empty (with_own_elements m u) else Some u)) (sym (flat_not_list m.node.kind flat))
    shown u ts is e false scalar h =
        list_part m u ts h (ap place_at query) plain is e ∙ ap (λ k. Some (if same_kind k kind.List then unless_empty (with_own_elements m u) else Some u)) (sym (list_of_element is_scalar m h).kind)

    go : (o : Option Value) → ((u : Value) → o ≡ Some u → IsPlacedValue m u) → query_part m (first_texts m o) ≡ Some (option_and_then (bound_view_at (to_query name) (query_names schema) m) o)
    go None is = refl
    go (Some u) is =
        let p = is u refl in
        ap (λ (o : Option (List (List ℕ))). query_part m (unwrap_or o [])) p.texts ∙ shown u p.ts p.value p.texts (is_scalar m.node.kind) refl kinds
