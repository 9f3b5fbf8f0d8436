-- What stands in the query at a name: the texts of the member with that name, or those of the query map.
use Rattle.smithy_unambiguity.proofs.Common.{◌≡◌, ◌≢◌, refl, sym, ◌∙◌, ap, ℕ, ◌≤◌, Bool, true, false, cond, List, [], length, filter, flat_map, Option, Some, None, unwrap_or, option_map_or, leb-true, same_text, is_one_of, Schema, member_at, members_of, Binding, to_query, to_query_map, binding_of, Value, Write, Resolved, firsts, values_at, pairs, pairs_at, query_names, texts, pairs_of, IsCheckedInput, same_text_self, cond_both, false_from_ne_true}
use Rattle.std.specs.Cmp.Lexicographic.{same_text as same_from_test}
use Rattle.smithy_unambiguity.proofs.ByName.{values_at-flat_map, under_name, no_values}
use Rattle.smithy_unambiguity.proofs.ByMember.{at_member, first_value, first_texts, only_member, none_given}
use Rattle.smithy_unambiguity.proofs.EntriesTold.{text_pairs, key_texts, written_texts, query_map_gives}
use Rattle.smithy_unambiguity.proofs.Positions.{members_by_position, queries_apart, query_name_found}
use Rattle.smithy_unambiguity.proofs.Singles.{single}
use Rattle.smithy_unambiguity.proofs.SoundMaps.{sound_maps}
use Rattle.smithy_unambiguity.proofs.Traits.{trait_of, stands_at, stands_there}

-- what a write gives to the query at a name
abbrev asked : Schema → List ℕ → Resolved → List (List ℕ)
asked schema name r = values_at name (pairs_of schema r)

pairs_at_name : (schema : Schema) (ws : List Write) (name : List ℕ) → values_at name (pairs schema ws) ≡ flat_map (asked schema name) (firsts schema ws)
unfolding pairs
pairs_at_name schema ws name = values_at-flat_map name (pairs_of schema) (firsts schema ws)

-- the same by the binding
abbrev asked_at : List (List ℕ) → List ℕ → Binding → Schema → Value → List (List ℕ)
asked_at names name (to_query n) m v = cond (same_text n name) (unwrap_or (texts m v) []) []
asked_at names name to_query_map m v = cond (is_one_of name names) [] (values_at name (flat_map text_pairs (key_texts v)))
asked_at names name _ m v = []

asked_is : (names : List (List ℕ)) (name : List ℕ) (b : Binding) (m : Schema) (v : Value) → values_at name (pairs_at b names m v) ≡ asked_at names name b m v
asked_is names name (to_query n) m v = under_name name n (same_text n name) (unwrap_or (texts m v) []) refl
asked_is names name to_query_map m v = query_map_gives names name v
asked_is names name _ m v = refl

-- at a query member's name stand the texts of its first write
pub pairs_of_member : (schema : Schema) → IsCheckedInput schema → (ws : List Write) (i : ℕ) (m : Schema) (name : List ℕ) → member_at schema i ≡ Some m → binding_of m ≡ to_query name
    → values_at name (pairs schema ws) ≡ first_texts m (first_value schema ws i)
pairs_of_member schema checked ws i m name at query = pairs_at_name schema ws name ∙ only_member (asked schema name) schema ws i m at others ∙ go (first_value schema ws i)
  where
    go : (o : Option Value) → option_map_or (λ v. asked schema name (at_member i m v)) o [] ≡ first_texts m o
    go None = refl
    go (Some v) = ap (λ b. values_at name (pairs_at b (query_names schema) m v)) query ∙ asked_is (query_names schema) name (to_query name) m v ∙ ap (λ t. cond t (unwrap_or (texts m v) []) []) (same_text_self name)

    others : (r : Resolved) → member_at schema r.position ≡ Some r.member → r.position ≢ i → asked schema name r ≡ []
    others r at_r other = asked_is (query_names schema) name (binding_of r.member) r.member r.value ∙ nothing (binding_of r.member) refl
      where
        nothing : (b : Binding) → binding_of r.member ≡ b → asked_at (query_names schema) name b r.member r.value ≡ []
        nothing (to_query n) e =
            cond_both (same_text n name) (unwrap_or (texts r.member r.value) []) [] (λ ts. ts ≡ [])
            (λ h. absurd (other (queries_apart schema checked r.position i r.member m name at_r at (trait_of r.member (to_query n) e ∙ ap Some (same_from_test n name (sym h))) (trait_of m (to_query name) query)))) (λ h. refl)
        nothing to_query_map e = ap (λ t. cond t [] (values_at name (flat_map text_pairs (key_texts r.value)))) (query_name_found schema checked i m name at (trait_of m (to_query name) query))
        nothing _ e = refl

-- The query map.

abbrev pub named_query : List ℕ → Binding → Bool
named_query name (to_query n) = same_text n name
named_query name _ = false

-- no other binding gives a pair of the name
nothing_asked : (schema : Schema) (name : List ℕ) (r : Resolved) → named_query name (binding_of r.member) ≡ false → stands_at to_query_map (binding_of r.member) ≡ false → asked schema name r ≡ []
nothing_asked schema name r unnamed no_map = asked_is (query_names schema) name (binding_of r.member) r.member r.value ∙ go (binding_of r.member) unnamed no_map
  where
    go : (b : Binding) → named_query name b ≡ false → stands_at to_query_map b ≡ false → asked_at (query_names schema) name b r.member r.value ≡ []
    go (to_query n) a c = ap (λ t. cond t (unwrap_or (texts r.member r.value) []) []) a
    go to_query_map a c = absurd (cc c)
    go _ a c = refl

-- no query member has the name
abbrev pub IsUnnamed : Schema → List ℕ → Type 0
IsUnnamed schema name = (i : ℕ) (m : Schema) → member_at schema i ≡ Some m → named_query name (binding_of m) ≡ false

pub unnamed_outside : (schema : Schema) → IsCheckedInput schema → (name : List ℕ) → is_one_of name (query_names schema) ≡ false → IsUnnamed schema name
unnamed_outside schema checked name outside i m at = go (binding_of m) refl
  where
    go : (b : Binding) → binding_of m ≡ b → named_query name b ≡ false
    go (to_query n) e =
        false_from_ne_true (same_text n name)
        (λ h. let q : true ≡ false = sym (query_name_found schema checked i m n at (trait_of m (to_query n) e)) ∙ ap (λ k. is_one_of k (query_names schema)) (same_from_test n name (sym h)) ∙ outside in cc q)
    go _ e = refl

pub no_pairs : (schema : Schema) (ws : List Write) (name : List ℕ) → IsUnnamed schema name → ((i : ℕ) (m : Schema) → member_at schema i ≡ Some m → stands_at to_query_map (binding_of m) ≡ false) → values_at name (pairs schema ws) ≡ []
no_pairs schema ws name unnamed no_map =
    pairs_at_name schema ws name ∙ none_given (asked schema name) schema ws (λ r at. nothing_asked schema name r (unnamed r.position r.member at) (no_map r.position r.member at))

-- at a name that no query member has stand the texts of the map's first write
pub pairs_of_map : (schema : Schema) → IsCheckedInput schema → (ws : List Write) (i : ℕ) (m : Schema) (name : List ℕ) → member_at schema i ≡ Some m → binding_of m ≡ to_query_map → IsUnnamed schema name
    → values_at name (pairs schema ws) ≡ cond (is_one_of name (query_names schema)) [] (values_at name (flat_map text_pairs (written_texts (first_value schema ws i))))
pairs_of_map schema checked ws i m name at query_map unnamed = pairs_at_name schema ws name ∙ only_member (asked schema name) schema ws i m at others ∙ go (first_value schema ws i)
  where
    one : length (filter (λ m. m.node.traits.http_query_params) (members_of schema)) ≤ 1
    one = leb-true (length (filter (λ m. m.node.traits.http_query_params) (members_of schema))) 1 (sound_maps schema checked).one_query_map

    others : (r : Resolved) → member_at schema r.position ≡ Some r.member → r.position ≢ i → asked schema name r ≡ []
    others r at_r other =
        nothing_asked schema name r (unnamed r.position r.member at_r)
        (false_from_ne_true (stands_at to_query_map (binding_of r.member)) (λ e.
        other (single (λ m. m.node.traits.http_query_params) (members_of schema) one r.position i r.member m (members_by_position schema checked.cited r.position ∙ at_r) (members_by_position schema checked.cited i ∙ at)
        (trait_of r.member to_query_map (stands_there to_query_map (binding_of r.member) e)) (trait_of m to_query_map query_map))))

    go : (o : Option Value) → option_map_or (λ v. asked schema name (at_member i m v)) o [] ≡ cond (is_one_of name (query_names schema)) [] (values_at name (flat_map text_pairs (written_texts o)))
    go None = cond_both (is_one_of name (query_names schema)) no_values no_values (λ vs. no_values ≡ vs) (λ e. refl) (λ e. refl)
    go (Some v) = ap (λ b. values_at name (pairs_at b (query_names schema) m v)) query_map ∙ asked_is (query_names schema) name to_query_map m v
