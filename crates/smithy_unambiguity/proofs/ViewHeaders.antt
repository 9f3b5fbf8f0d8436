-- The normal form gives the same headers at each name.
use Rattle.smithy_unambiguity.proofs.Common.{◌≡◌, ◌≢◌, refl, sym, ◌∙◌, ap, ℕ, ◌⊎◌, inl, inr, Bool, true, false, ◌&&◌, ◌==◌, List, [], ◌∷◌, ◌++◌, Option, Some, None, option_and_then, option_to_list, is_some, is_none, if◌then◌else◌, eq-eqb, option_map_or, str_to_ascii_lowercase, eqb-true, map-append, found, Schema, member_at, Binding, to_header, to_prefix, binding_of, Value, Write, text_of_key, Resolved, values_at, lower_twice, headers, inserted_at, query_names, place_at, IsCheckedInput, has_bound_kind, is_text_map, is_placed_at, is_well_made, view, bound_view_at, with_default, Pairs, all_put}
use Rattle.std.specs.Cmp.Lexicographic.{same_text as same_from_test}
use Rattle.smithy_unambiguity.proofs.LastTexts.{last_value, lowered}
use Rattle.smithy_unambiguity.proofs.ByMember.{at_member, first_value, only_member, none_given}
use Rattle.smithy_unambiguity.proofs.ByName.{found-front, front}
use Rattle.smithy_unambiguity.proofs.EntriesTold.{as_text}
use Rattle.smithy_unambiguity.proofs.HeaderNames.{HasApartHeaders, headers_apart}
use Rattle.smithy_unambiguity.proofs.Headers.{given, given_is, headers_at, header_values, headers_of_member, prefixed, map_pairs, none_prefixed, under_front, named_header, is_prefix, nothing_inserted}
use Rattle.smithy_unambiguity.proofs.HeadersTold.{header_kinds}
use Rattle.smithy_unambiguity.proofs.MapsTold.{written_pairs, prefix_map_view, text_map_at}
use Rattle.smithy_unambiguity.proofs.PairLemmas.{AllPairs, ordered_all}
use Rattle.smithy_unambiguity.proofs.Placed.{HasTypedWrites, IsPlacedValue, placed_value, kinds_at}
use Rattle.smithy_unambiguity.proofs.Queries.{values_at-append}
use Rattle.smithy_unambiguity.proofs.Traits.{trait_of}
use Rattle.smithy_unambiguity.proofs.ViewParts.{member_or, bound_part, SomeOrNone}
use Rattle.smithy_unambiguity.proofs.ViewValues.{header_kept, map_left, ordered_last}
use Rattle.smithy_unambiguity.proofs.Positions.{sound_input}

-- Header members.

header_part_left : (m : Schema) (names : List (List ℕ)) (name : List ℕ) (o : Option Value) → (m' : binding_of m ≡ to_header name) → has_bound_kind m ≡ true → ((v : Value) → o ≡ Some v → IsPlacedValue m v)
    → option_map_or (header_values m) (option_and_then (bound_view_at (to_header name) names m) o) [] ≡ option_map_or (header_values m) o []
header_part_left m names name None header kinds is = refl
header_part_left m names name (Some v) header kinds is = header_kept m v (header_kinds m name (trait_of m (to_header name) header) kinds) (ap place_at header) (is v refl).value

-- The prefix map.

abbrev pub AreLower : Pairs (List ℕ) → Type 0
AreLower ps = AllPairs (λ k. str_to_ascii_lowercase k ≡ k) (λ t. t ≡ t) ps

are_lower : (ps : Pairs (List ℕ)) → AreLower (lowered ps)
are_lower [] = tt
are_lower (p ∷ ps) = ((lower_twice p.0, refl), are_lower ps)

lower_same : (ps : Pairs (List ℕ)) → AreLower ps → lowered ps ≡ ps
lower_same [] all = refl
lower_same (p ∷ ps) all = λ i. (all.0.0 i, p.1) ∷ lower_same ps all.1 i

-- lower-case keys in order are in lower case
pub lowered_ordered : (ps : Pairs (List ℕ)) → AreLower (all_put (lowered ps) [])
lowered_ordered ps = ordered_all (λ k. str_to_ascii_lowercase k ≡ k) (λ t. t ≡ t) (lowered ps) (are_lower ps)

-- a name begins with a text, or it does not
begins_or : (front name : List ℕ) → ((key : List ℕ) × (name ≡ front ++ key)) ⊎ ((key : List ℕ) → front ++ key ≢ name)
begins_or [] name = inl (name, refl)
begins_or (b ∷ front) [] = inr (λ key e. cc e)
begins_or (b ∷ front) (c ∷ name) = go (b == c) refl (begins_or front name)
  where
    go : (t : Bool) → (b == c) ≡ t → ((key : List ℕ) × (name ≡ front ++ key)) ⊎ ((key : List ℕ) → front ++ key ≢ name) → ((key : List ℕ) × (c ∷ name ≡ b ∷ front ++ key)) ⊎ ((key : List ℕ) → b ∷ front ++ key ≢ c ∷ name)
    go true e (inl x) = let same = eqb-true b c e in inl (x.0, λ i. sym same i ∷ x.1 i)
    go true e (inr none) = inr (λ key h. let q : front ++ key ≡ name = cc h in none key q)
    go false e rest = inr (λ key h. let q : b ≡ c = cc h in let z : true ≡ false = sym (eq-eqb b c q) ∙ e in cc z)

prefix_left : (prefix name : List ℕ) (ps : List (List ℕ × List ℕ)) → last_value (values_at name (prefixed prefix (all_put (lowered ps) []))) ≡ last_value (values_at name (prefixed prefix ps))
prefix_left prefix name ps = go (begins_or (str_to_ascii_lowercase prefix) name)
  where
    go : ((key : List ℕ) × (name ≡ str_to_ascii_lowercase prefix ++ key)) ⊎ ((key : List ℕ) → str_to_ascii_lowercase prefix ++ key ≢ name)
        → last_value (values_at name (prefixed prefix (all_put (lowered ps) []))) ≡ last_value (values_at name (prefixed prefix ps))
    go (inl x) =
        ap (λ n. last_value (values_at n (prefixed prefix (all_put (lowered ps) [])))) x.1
        ∙ ap last_value (under_front prefix x.0 (all_put (lowered ps) []) ∙ ap (values_at x.0) (lower_same (all_put (lowered ps) []) (lowered_ordered ps))) ∙ ordered_last x.0 (lowered ps)
        ∙ ap last_value (sym (under_front prefix x.0 ps)) ∙ ap (λ n. last_value (values_at n (prefixed prefix ps))) (sym x.1)
    go (inr none) =
        let unlike : (key : List ℕ) → str_to_ascii_lowercase (prefix ++ key) ≢ name = λ key e. none (str_to_ascii_lowercase key) (sym (map-append _ prefix key) ∙ e) in
        ap last_value (none_prefixed prefix name (all_put (lowered ps) []) unlike ∙ sym (none_prefixed prefix name ps unlike))

prefix_part_left : (m : Schema) (names : List (List ℕ)) (prefix name : List ℕ) (o : Option Value) → is_text_map m ≡ true → ((v : Value) → o ≡ Some v → IsPlacedValue m v)
    → last_value (values_at name (prefixed prefix (written_pairs (option_and_then (bound_view_at (to_prefix prefix) names m) o)))) ≡ last_value (values_at name (prefixed prefix (written_pairs o)))
prefix_part_left m names prefix name None text_map is = refl
prefix_part_left m names prefix name (Some v) text_map is =
    ap (λ o. last_value (values_at name (prefixed prefix (written_pairs o)))) (prefix_map_view m names prefix v text_map (is v refl))
    ∙ ap (λ qs. last_value (values_at name (prefixed prefix qs))) (map_left m as_text text_of_key (λ t. refl) (all_put (lowered (map_pairs v)) []))
    ∙ prefix_left prefix name (map_pairs v)

-- Headers.

-- a header of this name
record IsHeaderNamed (name : List ℕ) (b : Binding) : Type 0 where
  own : List ℕ
  is : b ≡ to_header own
  lower : str_to_ascii_lowercase own ≡ name

header_named : (name : List ℕ) (b : Binding) → named_header name b ≡ true → IsHeaderNamed name b
header_named name (to_header n) e = record { own = n; is = refl; lower = same_from_test (str_to_ascii_lowercase n) name (sym e) }
header_named name _ e = absurd (cc e)

prefix_is : (b : Binding) → is_prefix b ≡ true → (p : List ℕ) × (b ≡ to_prefix p)
prefix_is (to_prefix p) e = (p, refl)
prefix_is _ e = absurd (cc e)

pub headers_of_view : (schema : Schema) (ws : List Write) → IsCheckedInput schema → is_well_made schema ≡ true → HasTypedWrites schema ws
    → (name : List ℕ) → values_at name (headers schema (view schema ws)) ≡ values_at name (headers schema ws)
headers_of_view schema ws checked well_made typed name = go (member_or schema checked (λ m. named_header name (binding_of m))) (member_or schema checked (λ m. is_prefix (binding_of m)))
  where
    apart : HasApartHeaders schema
    apart = headers_apart schema (sound_input schema checked)

    go : SomeOrNone (member_at schema) (λ m. named_header name (binding_of m)) → SomeOrNone (member_at schema) (λ m. is_prefix (binding_of m))
        → values_at name (headers schema (view schema ws)) ≡ values_at name (headers schema ws)
    go (inl x) other =
        let m = x.1 in
        let h = header_named name (binding_of m) x.3 in
        let of_first : (us : List Write) → values_at name (headers schema us) ≡ option_to_list (last_value (option_map_or (header_values m) (first_value schema us x.0) [])) = λ us.
        ap (λ n. values_at n (headers schema us)) (sym h.lower) ∙ headers_of_member schema us x.0 m h.own apart x.2 h.is in
        of_first (view schema ws)
        ∙ ap (λ (o : Option Value). option_to_list (last_value (option_map_or (header_values m) o []))) (bound_part schema ws x.0 m (to_header h.own) checked well_made x.2 h.is refl)
        ∙ ap (λ vs. option_to_list (last_value vs)) (header_part_left m (query_names schema) h.own (first_value schema ws x.0) h.is (kinds_at schema checked x.0 m x.2) (λ v e. placed_value schema ws x.0 m v typed x.2 (ap is_placed_at h.is) e))
        ∙ sym (of_first ws)
    go (inr unnamed) (inr no_prefix) =
        let none : (us : List Write) → values_at name (headers schema us) ≡ [] = λ us.
        headers_at schema us name ∙ ap (λ vs. option_to_list (last_value vs)) (none_given (given name) schema us (λ r at. nothing_inserted name r (unnamed r.position r.member at) (λ p e. let q : true ≡ false = sym (ap is_prefix e) ∙ no_prefix r.position r.member at in absurd (cc q)))) in
        none (view schema ws) ∙ sym (none ws)
    go (inr unnamed) (inl x) =
        of_map (view schema ws)
        ∙ ap (λ o. option_to_list (last_value (values_at name (prefixed prefix (written_pairs o))))) (bound_part schema ws x.0 x.1 (to_prefix prefix) checked well_made x.2 begins refl)
        ∙ ap option_to_list (prefix_part_left x.1 (query_names schema) prefix name (first_value schema ws x.0) (text_map_at schema checked x.0 x.1 prefix x.2 begins) (λ v e. placed_value schema ws x.0 x.1 v typed x.2 (ap is_placed_at begins) e))
        ∙ sym (of_map ws)
      where
        prefix : List ℕ
        prefix = (prefix_is (binding_of x.1) x.3).0

        begins : binding_of x.1 ≡ to_prefix (prefix_is (binding_of x.1) x.3).0
        begins = (prefix_is (binding_of x.1) x.3).1

        others : (r : Resolved) → member_at schema r.position ≡ Some r.member → r.position ≢ x.0 → given name r ≡ []
        others r at_r other =
            nothing_inserted name r (unnamed r.position r.member at_r)
            (λ p e. absurd (other (apart.one_prefix r.position x.0 r.member x.1 at_r x.2 (ap is_some (trait_of r.member (to_prefix p) e)) (ap is_some (trait_of x.1 (to_prefix (prefix_is (binding_of x.1) x.3).0) begins)))))

        of_map : (us : List Write) → values_at name (headers schema us) ≡ option_to_list (last_value (values_at name (prefixed (prefix_is (binding_of x.1) x.3).0 (written_pairs (first_value schema us x.0)))))
        of_map us = headers_at schema us name ∙ ap (λ vs. option_to_list (last_value vs)) (only_member (given name) schema us x.0 x.1 x.2 others ∙ by (first_value schema us x.0))
          where
            by : (o : Option Value) → option_map_or (λ v. given name (at_member x.0 x.1 v)) o [] ≡ values_at name (prefixed (prefix_is (binding_of x.1) x.3).0 (written_pairs o))
            by None = refl
            by (Some v) = ap (λ b. values_at name (inserted_at b x.1 v)) begins ∙ given_is name (to_prefix (prefix_is (binding_of x.1) x.3).0) x.1 v

-- Headers with the defaults.

pub values_at-with_default_same : (wanted : Bool) (default text : List ℕ) (ps qs : List (List ℕ × List ℕ)) → ((name : List ℕ) → values_at name ps ≡ values_at name qs)
    → (name : List ℕ) → values_at name (with_default wanted default text ps) ≡ values_at name (with_default wanted default text qs)
values_at-with_default_same wanted default text ps qs same name = go wanted (found default ps) (found default qs) (found-front default ps ∙ ap front (same default) ∙ sym (found-front default qs))
  where
    go : (w : Bool) (o p : Option (List ℕ)) → o ≡ p
        → values_at name (if w && is_none o then ps ++ (default, text) ∷ [] else ps) ≡ values_at name (if w && is_none p then qs ++ (default, text) ∷ [] else qs)
    go false o p e = same name
    go true None None e = values_at-append name ps ((default, text) ∷ []) ∙ ap (λ vs. vs ++ values_at name ((default, text) ∷ [])) (same name) ∙ sym (values_at-append name qs ((default, text) ∷ []))
    go true (Some x) (Some y) e = same name
    go true None (Some y) e = absurd (cc e)
    go true (Some x) None e = absurd (cc e)
