-- The normal form gives the same pairs, labels and headers at each name.
use Rattle.smithy_unambiguity.proofs.Common.{◌≡◌, refl, sym, ◌∙◌, ap, ℕ, zero, suc, ◌⊎◌, inl, inr, Bool, true, false, cond, ◌||◌, List, [], ◌∷◌, flat_map, slice_get, Option, Some, None, option_and_then, unwrap_or, if◌then◌else◌, and_parts, found, same_text, is_one_of, ShapeType, same_kind, is_scalar, Schema, element_of, value_of, member_at, members_of, name_of, Binding, to_query, to_query_map, to_label, binding_of, is_outside_body, Value, Writes, no_writes, write, Write, settled_elements, values_at, pairs, labels, query_names, texts, entry_texts, IsCheckedInput, has_element, is_query_map, is_placed_at, is_well_made, view, bound_view_at, unless_empty, with_own_elements, subst}
use Rattle.std.specs.Cmp.Lexicographic.{same_text as same_from_test}
use Rattle.smithy_ids.specs.declared.shape_type.ShapeType.TheVariants as kind
use Rattle.smithy_serde.specs.Values as value
use Rattle.smithy_unambiguity.proofs.ByMember.{first_value, first_texts}
use Rattle.smithy_unambiguity.proofs.ByName.{found-front, front}
use Rattle.smithy_unambiguity.proofs.EntriesTold.{own_value, key_texts, written_texts, text_pairs, query_texts, query_texts_kept}
use Rattle.smithy_unambiguity.proofs.Fits.{is_flat}
use Rattle.smithy_unambiguity.proofs.LabelFirst.{is_label_named, no_labels, label_of_first}
use Rattle.smithy_unambiguity.proofs.MapsTold.{query_map_view, query_map_at, keys_distinct}
use Rattle.smithy_unambiguity.proofs.MemberTexts.{list_of_element, bound_list}
use Rattle.smithy_unambiguity.proofs.Members.{names_apart, HasApartNames}
use Rattle.smithy_unambiguity.proofs.Placed.{HasTypedWrites, IsPlacedValue, placed_value, bound_view_of, kinds_at}
use Rattle.smithy_unambiguity.proofs.Positions.{members_by_position, own_names}
use Rattle.smithy_unambiguity.proofs.QueryNames.{named_query, no_pairs, pairs_of_member, pairs_of_map}
use Rattle.smithy_unambiguity.proofs.TargetTold.{query_kinds}
use Rattle.smithy_unambiguity.proofs.Traits.{trait_of, stands_at, stands_there}
use Rattle.smithy_unambiguity.proofs.ViewValues.{list_texts_kept, map_left, own_texts}
use Rattle.smithy_unambiguity.proofs.ViewWrites.{first_value_of_view}

-- A member passes a test, of those that stand at positions, or none does.

abbrev pub SomeOrNone : (ℕ → Option Schema) → (Schema → Bool) → Type 0
SomeOrNone at t = ((i : ℕ) × (m : Schema) × (at i ≡ Some m) × (t m ≡ true)) ⊎ ((i : ℕ) (m : Schema) → at i ≡ Some m → t m ≡ false)

some_or : (t : Schema → Bool) (ms : List Schema) → SomeOrNone (slice_get ms) t
some_or t [] = inr (λ j m e. absurd (cc e))
some_or t (x ∷ ms) = go (t x) refl (some_or t ms)
  where
    go : (b : Bool) → t x ≡ b → SomeOrNone (slice_get ms) t → SomeOrNone (slice_get (x ∷ ms)) t
    go true e rest = inl (0, x, refl, e)
    go false e (inl found) = inl (suc found.0, found.1, found.2, found.3)
    go false e (inr none) = inr all
      where
        all : (j : ℕ) (m : Schema) → slice_get (x ∷ ms) j ≡ Some m → t m ≡ false
        all zero m at = let same : x ≡ m = cc at in ap t (sym same) ∙ e
        all (suc j) m at = none j m at

pub member_or : (schema : Schema) → IsCheckedInput schema → (t : Schema → Bool) → SomeOrNone (member_at schema) t
member_or schema checked t = subst (λ at. SomeOrNone at t) (λ k i. members_by_position schema checked.cited i k) (some_or t (members_of schema))

-- The parts of the normal form that a bound member's first write leaves.

pub bound_part : (schema : Schema) (ws : List Write) (i : ℕ) (m : Schema) (b : Binding) → IsCheckedInput schema → is_well_made schema ≡ true → member_at schema i ≡ Some m → binding_of m ≡ b → is_outside_body b ≡ true
    → first_value schema (view schema ws) i ≡ option_and_then (bound_view_at b (query_names schema) m) (first_value schema ws i)
bound_part schema ws i m b checked well_made at is bound = first_value_of_view schema ws i m checked well_made at ∙ bound_view_of schema ws i m b at is bound

-- Query members.

list_left : (m : Schema) (ws : Writes) → first_texts m (unless_empty (value.list ws)) ≡ unwrap_or (texts m (value.list ws)) []
list_left m no_writes = refl
list_left m (write l v ws) = refl

-- a list is no scalar
pub no_list : (k : ShapeType) → is_scalar k ≡ true → same_kind k kind.List ≡ true → ⊥
no_list kind.List a c = cc a
no_list _ a c = cc (a, c)

query_left : (m : Schema) (names : List (List ℕ)) (name : List ℕ) (v : Value) → (is_scalar m.node.kind || has_element is_scalar m) ≡ true → IsPlacedValue m v
    → first_texts m (bound_view_at (to_query name) names m v) ≡ unwrap_or (texts m v) []
query_left m names name v kinds is = go (same_kind m.node.kind kind.List) refl
  where
    go : (t : Bool) → same_kind m.node.kind kind.List ≡ t → first_texts m (if t then unless_empty (with_own_elements m v) else Some v) ≡ unwrap_or (texts m v) []
    go false e = refl
    go true e = by (is_scalar m.node.kind) refl kinds
      where
        by : (s : Bool) → is_scalar m.node.kind ≡ s → (s || has_element is_scalar m) ≡ true → first_texts m (unless_empty (with_own_elements m v)) ≡ unwrap_or (texts m v) []
        by false q h =
            let l = list_of_element is_scalar m h in
            let b = bound_list is_scalar m l v is.value in
            let flat : is_flat l.element.node.kind ≡ true = ap (λ t. t || same_kind l.element.node.kind kind.Blob) l.passes in
            ap (λ u. first_texts m (unless_empty (with_own_elements m u))) b.is ∙ list_left m (settled_elements (element_of m) b.ws) ∙ ap (λ u. unwrap_or (texts m (with_own_elements m u)) []) (sym b.is)
            ∙ ap (λ (o : Option (List (List ℕ))). unwrap_or o []) (list_texts_kept is_scalar m v l flat b)
        by true q h = absurd (no_list m.node.kind q e)

query_part_left : (m : Schema) (names : List (List ℕ)) (name : List ℕ) (o : Option Value) → (is_scalar m.node.kind || has_element is_scalar m) ≡ true → ((v : Value) → o ≡ Some v → IsPlacedValue m v)
    → first_texts m (option_and_then (bound_view_at (to_query name) names m) o) ≡ first_texts m o
query_part_left m names name None kinds is = refl
query_part_left m names name (Some v) kinds is = query_left m names name v kinds (is v refl)

-- The query map.

-- the texts of the query map's entries that are no query members' are told by the normal form
query_map_left : (m : Schema) (names : List (List ℕ)) (name : List ℕ) (o : Option Value) → is_query_map m ≡ true → ((v : Value) → o ≡ Some v → IsPlacedValue m v)
    → cond (is_one_of name names) [] (values_at name (flat_map text_pairs (written_texts (option_and_then (bound_view_at to_query_map names m) o))))
    ≡ cond (is_one_of name names) [] (values_at name (flat_map text_pairs (written_texts o)))
query_map_left m names name None query_map is = refl
query_map_left m names name (Some v) query_map is =
    ap (λ o. cond (is_one_of name names) [] (values_at name (flat_map text_pairs (written_texts o)))) (query_map_view m names v query_map (is v refl))
    ∙ ap (λ qs. cond (is_one_of name names) [] (values_at name (flat_map text_pairs qs))) (map_left m (own_value (value_of m)) entry_texts (own_texts (value_of m)) (query_texts names (key_texts v)))
    ∙ query_texts_kept names name (key_texts v) (keys_distinct m v (is v refl))

-- Pairs.

query_named : (name : List ℕ) (b : Binding) → named_query name b ≡ true → b ≡ to_query name
query_named name (to_query n) e = ap to_query (same_from_test n name (sym e))
query_named name _ e = absurd (cc e)

pub pairs_of_view : (schema : Schema) (ws : List Write) → IsCheckedInput schema → is_well_made schema ≡ true → HasTypedWrites schema ws → (name : List ℕ) → values_at name (pairs schema (view schema ws)) ≡ values_at name (pairs schema ws)
pairs_of_view schema ws checked well_made typed name = go (member_or schema checked (λ m. named_query name (binding_of m))) (member_or schema checked (λ m. stands_at to_query_map (binding_of m)))
  where
    go : SomeOrNone (member_at schema) (λ m. named_query name (binding_of m)) → SomeOrNone (member_at schema) (λ m. stands_at to_query_map (binding_of m))
        → values_at name (pairs schema (view schema ws)) ≡ values_at name (pairs schema ws)
    go (inl x) other =
        let i = x.0 in
        let m = x.1 in
        let query = query_named name (binding_of m) x.3 in
        pairs_of_member schema checked (view schema ws) i m name x.2 query ∙ ap (first_texts m) (bound_part schema ws i m (to_query name) checked well_made x.2 query refl)
        ∙ query_part_left m (query_names schema) name (first_value schema ws i) (query_kinds m name (trait_of m (to_query name) query) (kinds_at schema checked i m x.2)) (λ v e. placed_value schema ws i m v typed x.2 (ap is_placed_at query) e)
        ∙ sym (pairs_of_member schema checked ws i m name x.2 query)
    go (inr unnamed) (inr no_map) = no_pairs schema (view schema ws) name unnamed no_map ∙ sym (no_pairs schema ws name unnamed no_map)
    go (inr unnamed) (inl x) =
        let query_map = stands_there to_query_map (binding_of x.1) x.3 in
        pairs_of_map schema checked (view schema ws) x.0 x.1 name x.2 query_map unnamed
        ∙ ap (λ o. cond (is_one_of name (query_names schema)) [] (values_at name (flat_map text_pairs (written_texts o)))) (bound_part schema ws x.0 x.1 to_query_map checked well_made x.2 query_map refl)
        ∙ query_map_left x.1 (query_names schema) name (first_value schema ws x.0) (query_map_at schema checked x.0 x.1 x.2 query_map) (λ v e. placed_value schema ws x.0 x.1 v typed x.2 (ap is_placed_at query_map) e)
        ∙ sym (pairs_of_map schema checked ws x.0 x.1 name x.2 query_map unnamed)

-- Labels.

same_option : (o : Option Value) → option_and_then (λ v. Some v) o ≡ o
same_option None = refl
same_option (Some v) = refl

pub labels_of_view : (schema : Schema) (ws : List Write) → IsCheckedInput schema → is_well_made schema ≡ true → (name : List ℕ) → found name (labels schema (view schema ws)) ≡ found name (labels schema ws)
labels_of_view schema ws checked well_made name = found-front name (labels schema (view schema ws)) ∙ ap front (go (member_or schema checked (is_label_named name))) ∙ sym (found-front name (labels schema ws))
  where
    apart : HasApartNames schema
    apart = names_apart schema (own_names schema checked) well_made

    go : SomeOrNone (member_at schema) (is_label_named name) → values_at name (labels schema (view schema ws)) ≡ values_at name (labels schema ws)
    go (inr none) = no_labels schema (view schema ws) name none ∙ sym (no_labels schema ws name none)
    go (inl x) =
        let m = x.1 in
        let tests = and_parts (stands_at to_label (binding_of m)) (same_text (name_of m) name) x.3 in
        let label = stands_there to_label (binding_of m) tests.0 in
        let of_first : (us : List Write) → values_at name (labels schema us) ≡ first_texts m (first_value schema us x.0) = λ us.
        ap (λ n. values_at n (labels schema us)) (sym (same_from_test (name_of m) name (sym tests.1))) ∙ label_of_first schema apart us x.0 m x.2 label in
        of_first (view schema ws)
        ∙ ap (first_texts m) (bound_part schema ws x.0 m to_label checked well_made x.2 label refl ∙ same_option (first_value schema ws x.0))
        ∙ sym (of_first ws)
