-- What is seen of a request tells the normal form's part of the prefix map and of the query map.
use Rattle.smithy_unambiguity.proofs.Common.{◌≡◌, ◌≢◌, cond, refl, sym, ◌∙◌, ap, subst, ℕ, ◌⊎◌, inl, inr, arith, nat_lt, ltb-true, ltb-false, Bool, true, false, not, ◌&&◌, List, [], ◌∷◌, ◌++◌, filter, flat_map, Option, Some, None, option_and_then, option_to_list, is_some, IsTrue, AllByRecursion, list_all, option_map_or, str_to_ascii_lowercase, and_parts, lower_twice, same_text, is_one_of, are_distinct, same_kind, Schema, member_at, members_of, key_of, value_of, to_prefix, to_query_map, binding_of, Value, Write, map_value, in_key_order, AreBytes, values_at, headers, inserted_at, pairs, query_names, map_entries, entry_texts, body, IsCheckedInput, is_text_map, is_query_map, is_plain_string, is_placed_at, Protocol, OmitFlags, all_headers, IsTyped, default_names, has_no_default_name, member_view, bound_view_at, unless_empty, in_lower_case, has_pairs, same_text_self, all_put, Resolved, Binding, to_header, map-append, append_cancel_left}
use Rattle.std.specs.Cmp.Lexicographic.{same_text as same_from_test}
use Rattle.smithy_ids.specs.declared.shape_type.ShapeType.TheVariants as kind
use Rattle.smithy_unambiguity.proofs.LastTexts.{last_value, last_at, lowered}
use Rattle.smithy_unambiguity.proofs.ByMember.{first_value, at_member, none_given}
use Rattle.smithy_unambiguity.proofs.Defaults.{all_headers_at, leaves-elsewhere}
use Rattle.smithy_unambiguity.proofs.EntriesTold.{as_text, is_text_node, own_value, key_texts, written_texts, text_pairs, query_texts, own_query_entries, own_text_entries, query_entries, query_texts_told, entries_distinct, in_order, SameLast, ordered_told, lower_entries}
use Rattle.smithy_unambiguity.proofs.HeaderNames.{headers_apart, HasApartHeaders}
use Rattle.smithy_unambiguity.proofs.Headers.{headers_of_prefix, inserted_entries, map_pairs, under_prefix, headers_at, given, nothing_inserted, named_header}
use Rattle.smithy_unambiguity.proofs.HeadersTold.{AreSeenSame, bound_told}
use Rattle.smithy_unambiguity.proofs.PairLemmas.{valued, names as keys, names-valued}
use Rattle.smithy_unambiguity.proofs.ByName.{nothing_at}
use Rattle.smithy_unambiguity.proofs.Lists.{all_apply, all_from_test}
use Rattle.smithy_unambiguity.proofs.Traits.{trait_of}
use Rattle.smithy_unambiguity.proofs.Placed.{HasTypedWrites, IsPlacedValue, placed_value, member_among, first_has}
use Rattle.smithy_unambiguity.proofs.Positions.{members_by_position, sound_input}
use Rattle.smithy_unambiguity.proofs.QueryNames.{pairs_of_map, unnamed_outside}
use Rattle.smithy_unambiguity.proofs.SoundMaps.{sound_maps}
use Rattle.smithy_unambiguity.proofs.TargetTold.{pairs_told}
use Rattle.smithy_unambiguity.proofs.TextsBytes.{pairs_are_bytes, IsBytePair}

-- The maps of a checked schema.

-- what holds of each member that passes a test holds of a member that does
mapped_at : (test : Schema → Bool) (is_map : Schema → Bool) (schema : Schema) → IsCheckedInput schema → (i : ℕ) (m : Schema) → list_all is_map (filter test (members_of schema)) ≡ true → member_at schema i ≡ Some m → test m ≡ true → is_map m ≡ true
mapped_at test is_map schema checked i m all at is =
    member_among (λ m. is_map m ≡ true) test (members_of schema) i m (all_from_test is_map (filter test (members_of schema)) all) (members_by_position schema checked.cited i ∙ at) is

pub text_map_at : (schema : Schema) → IsCheckedInput schema → (i : ℕ) (m : Schema) (prefix : List ℕ) → member_at schema i ≡ Some m → binding_of m ≡ to_prefix prefix → is_text_map m ≡ true
text_map_at schema checked i m prefix at begins =
    mapped_at (λ m. is_some m.node.traits.http_prefix_headers) is_text_map schema checked i m (sound_maps schema checked).prefix_maps at (ap is_some (trait_of m (to_prefix prefix) begins))

pub query_map_at : (schema : Schema) → IsCheckedInput schema → (i : ℕ) (m : Schema) → member_at schema i ≡ Some m → binding_of m ≡ to_query_map → is_query_map m ≡ true
query_map_at schema checked i m at query_map =
    mapped_at (λ m. m.node.traits.http_query_params) is_query_map schema checked i m (sound_maps schema checked).query_maps at (trait_of m to_query_map query_map)

-- The query map.

-- the normal form of the map, from its texts: none of no entries
pub query_map_view : (m : Schema) (names : List (List ℕ)) (v : Value) → is_query_map m ≡ true → IsPlacedValue m v
    → bound_view_at to_query_map names m v ≡ unless_empty (map_value (Some m) (valued (own_value (value_of m)) (query_texts names (key_texts v))))
query_map_view m names v query_map is =
    let node = (and_parts (same_kind m.node.kind kind.Map && is_plain_string (key_of m)) (is_text_node (value_of m)) query_map).1 in
    ap (λ es. unless_empty (map_value (Some m) (filter (has_pairs names) (in_key_order es)))) (own_query_entries m v node is.value.items)
    ∙ ap (λ es. unless_empty (map_value (Some m) es)) (query_entries (value_of m) names (key_texts v))

pub query_map_part : (m : Schema) (names : List (List ℕ)) (o : Option Value) → is_query_map m ≡ true → ((v : Value) → o ≡ Some v → IsPlacedValue m v)
    → option_and_then (bound_view_at to_query_map names m) o ≡ unless_empty (map_value (Some m) (valued (own_value (value_of m)) (query_texts names (written_texts o))))
query_map_part m names None query_map is = refl
query_map_part m names (Some v) query_map is = query_map_view m names v query_map (is v refl)

-- each key stands once
pub keys_distinct : (m : Schema) (v : Value) → IsPlacedValue m v → are_distinct (keys (key_texts v)) ≡ true
keys_distinct m v is = ap are_distinct (names-valued entry_texts (map_entries v)) ∙ entries_distinct m v is.keys is.paired

pub distinct_keys : (m : Schema) (o : Option Value) → ((u : Value) → o ≡ Some u → IsPlacedValue m u) → are_distinct (keys (written_texts o)) ≡ true
distinct_keys m None is = refl
distinct_keys m (Some u) is = keys_distinct m u (is u refl)

pub query_map_told : (protocol : Protocol) (schema : Schema) (endpoint : List ℕ) (omit : OmitFlags) (v w : List Write) → AreSeenSame protocol schema endpoint omit v w → (i : ℕ) (m : Schema)
    → member_at schema i ≡ Some m → binding_of m ≡ to_query_map → ((key : List ℕ) → values_at key (pairs schema v) ≡ values_at key (pairs schema w)) → member_view schema v i m ≡ member_view schema w i m
query_map_told protocol schema endpoint omit v w are i m at query_map same =
    bound_told protocol schema endpoint omit v w are i m to_query_map at query_map refl
    (shown v are.writes_v
    ∙ ap (λ es. unless_empty (map_value (Some m) (valued (own_value (value_of m)) es)))
    (query_texts_told (query_names schema) (written_texts (first_value schema v i)) (written_texts (first_value schema w i)) (distinct v are.writes_v) (distinct w are.writes_w) told)
    ∙ sym (shown w are.writes_w))
  where
    placed : is_placed_at (binding_of m) ≡ true
    placed = ap is_placed_at query_map

    shown : (ws : List Write) → HasTypedWrites schema ws
        → option_and_then (bound_view_at to_query_map (query_names schema) m) (first_value schema ws i) ≡ unless_empty (map_value (Some m) (valued (own_value (value_of m)) (query_texts (query_names schema) (written_texts (first_value schema ws i)))))
    shown ws typed = query_map_part m (query_names schema) (first_value schema ws i) (query_map_at schema are.checked i m at query_map) (λ u e. placed_value schema ws i m u typed at placed e)

    distinct : (ws : List Write) → HasTypedWrites schema ws → are_distinct (keys (written_texts (first_value schema ws i))) ≡ true
    distinct ws typed = distinct_keys m (first_value schema ws i) (λ u e. placed_value schema ws i m u typed at placed e)

    of_map : (ws : List Write) (key : List ℕ) → is_one_of key (query_names schema) ≡ false → values_at key (pairs schema ws) ≡ values_at key (flat_map text_pairs (written_texts (first_value schema ws i)))
    of_map ws key outside =
        pairs_of_map schema are.checked ws i m key at query_map (unnamed_outside schema are.checked key outside) ∙ ap (λ t. cond t [] (values_at key (flat_map text_pairs (written_texts (first_value schema ws i))))) outside

    told : (key : List ℕ) → is_one_of key (query_names schema) ≡ false → values_at key (flat_map text_pairs (written_texts (first_value schema v i))) ≡ values_at key (flat_map text_pairs (written_texts (first_value schema w i)))
    told key outside = sym (of_map v key outside) ∙ same key ∙ of_map w key outside

-- no pair stands at a name that is not of bytes
no_bytes : (name : List ℕ) (ps : List (List ℕ × List ℕ)) → AllByRecursion IsBytePair ps → (AreBytes name → ⊥) → values_at name ps ≡ []
no_bytes name ps all not_bytes = nothing_at name ps (all_apply IsBytePair (λ p. p.0 ≢ name) ps (λ p bytes e. not_bytes (subst AreBytes e bytes.0)) all)

are_bytes_or : (name : List ℕ) → AreBytes name ⊎ (AreBytes name → ⊥)
are_bytes_or [] = inl tt
are_bytes_or (b ∷ name) = go (nat_lt b 256) refl (are_bytes_or name)
  where
    go : (t : Bool) → nat_lt b 256 ≡ t → AreBytes name ⊎ (AreBytes name → ⊥) → AreBytes (b ∷ name) ⊎ (AreBytes (b ∷ name) → ⊥)
    go true e (inl rest) = inl (ltb-true b 256 e, rest)
    go true e (inr rest) = inr (λ h. rest h.1)
    go false e rest = inr (λ h. let big = ltb-false b 256 e in let small = h.0 in absurd (omega (arith, big, small)))

-- so at every name the same texts stand
pub all_pairs_told : (protocol : Protocol) (schema : Schema) (endpoint : List ℕ) (omit : OmitFlags) (v w : List Write) → AreSeenSame protocol schema endpoint omit v w → (name : List ℕ) → values_at name (pairs schema v) ≡ values_at name (pairs schema w)
all_pairs_told protocol schema endpoint omit v w are name = go (are_bytes_or name)
  where
    none : (ws : List Write) → HasTypedWrites schema ws → (AreBytes name → ⊥) → values_at name (pairs schema ws) ≡ []
    none ws typed other = no_bytes name (pairs schema ws) (pairs_are_bytes schema ws are.setting.well_made typed.conforming typed.in_range) other

    go : AreBytes name ⊎ (AreBytes name → ⊥) → values_at name (pairs schema v) ≡ values_at name (pairs schema w)
    go (inl bytes) = pairs_told protocol schema endpoint omit v w are name bytes
    go (inr other) = none v are.writes_v other ∙ sym (none w are.writes_w other)

-- The prefix map.

-- the pairs of a map that may be written
abbrev pub written_pairs : Option Value → List (List ℕ × List ℕ)
written_pairs o = option_map_or map_pairs o []

-- the normal form of the map, from its texts
pub prefix_map_view : (m : Schema) (names : List (List ℕ)) (prefix : List ℕ) (v : Value) → is_text_map m ≡ true → IsPlacedValue m v
    → bound_view_at (to_prefix prefix) names m v ≡ unless_empty (map_value (Some m) (valued as_text (all_put (lowered (map_pairs v)) [])))
prefix_map_view m names prefix v text_map is =
    let plain = (and_parts (same_kind m.node.kind kind.Map && is_plain_string (key_of m)) (is_plain_string (value_of m)) text_map).1 in
    ap (λ es. unless_empty (map_value (Some m) (in_key_order (in_lower_case es)))) (own_text_entries m v plain is.value.items)
    ∙ ap (λ es. unless_empty (map_value (Some m) es)) (ap in_key_order (lower_entries (map_pairs v)) ∙ in_order as_text (lowered (map_pairs v)))

pub prefix_part : (m : Schema) (names : List (List ℕ)) (prefix : List ℕ) (o : Option Value) → is_text_map m ≡ true → ((v : Value) → o ≡ Some v → IsPlacedValue m v)
    → option_and_then (bound_view_at (to_prefix prefix) names m) o ≡ unless_empty (map_value (Some m) (valued as_text (all_put (lowered (written_pairs o)) [])))
prefix_part m names prefix None text_map is = refl
prefix_part m names prefix (Some v) text_map is = prefix_map_view m names prefix v text_map (is v refl)

list-injective : (o p : Option (List ℕ)) → option_to_list o ≡ option_to_list p → o ≡ p
list-injective None None e = refl
list-injective (Some x) (Some y) e = let same : x ≡ y = cc e in ap Some same
list-injective None (Some y) e = absurd (cc e)
list-injective (Some x) None e = absurd (cc e)

pub last_of_entries : (key : List ℕ) (o : Option Value) → option_map_or (λ v. last_at key (lowered (map_pairs v))) o [] ≡ last_at key (lowered (written_pairs o))
last_of_entries key None = refl
last_of_entries key (Some v) = refl

-- a name that is not in lower case is that of no text in lower case
unlike_lower : (name : List ℕ) → same_text (str_to_ascii_lowercase name) name ≡ false → (x : List ℕ) → str_to_ascii_lowercase x ≢ name
unlike_lower name upper x same =
    let lower : str_to_ascii_lowercase name ≡ name = ap str_to_ascii_lowercase (sym same) ∙ lower_twice x ∙ same in
    let q : true ≡ false = sym (same_text_self name) ∙ ap (λ n. same_text n name) (sym lower) ∙ upper in
    cc q

-- only names in lower case stand among these
pub not_lower : (name : List ℕ) (ps : List (List ℕ × List ℕ)) → same_text (str_to_ascii_lowercase name) name ≡ false → values_at name (lowered ps) ≡ []
not_lower name ps e = nothing_at name (lowered ps) (all ps)
  where
    all : (ps : List (List ℕ × List ℕ)) → AllByRecursion (λ p. p.0 ≢ name) (lowered ps)
    all [] = tt
    all (p ∷ ps) = (unlike_lower name e p.0, all ps)

-- No header of a message has a name that is not in lower case.
no_upper : (schema : Schema) (ws : List Write) (name : List ℕ) → same_text (str_to_ascii_lowercase name) name ≡ false → values_at name (headers schema ws) ≡ []
no_upper schema ws name upper = headers_at schema ws name ∙ ap (λ vs. option_to_list (last_value vs)) (none_given (given name) schema ws (λ r at. nothing_inserted name r (unnamed r) (λ prefix e key. unlike_lower name upper (prefix ++ key))))
  where
    unnamed : (r : Resolved) → named_header name (binding_of r.member) ≡ false
    unnamed r = go (binding_of r.member)
      where
        go : (b : Binding) → named_header name b ≡ false
        go (to_header n) = by (same_text (str_to_ascii_lowercase n) name) refl
          where
            by : (t : Bool) → same_text (str_to_ascii_lowercase n) name ≡ t → t ≡ false
            by true e = absurd (unlike_lower name upper n (same_from_test (str_to_ascii_lowercase n) name (sym e)))
            by false e = refl
        go _ = refl

-- so behind a prefix stand the entries that were written
pub headers_behind : (schema : Schema) (ws : List Write) (i : ℕ) (m : Schema) (prefix : List ℕ) → HasApartHeaders schema → member_at schema i ≡ Some m → binding_of m ≡ to_prefix prefix
    → (key : List ℕ) → values_at (str_to_ascii_lowercase prefix ++ key) (headers schema ws) ≡ last_at key (lowered (written_pairs (first_value schema ws i)))
headers_behind schema ws i m prefix apart at begins key = go (same_text (str_to_ascii_lowercase key) key) refl
  where
    low : List ℕ
    low = str_to_ascii_lowercase prefix

    written : List (List ℕ × List ℕ)
    written = written_pairs (first_value schema ws i)

    go : (t : Bool) → same_text (str_to_ascii_lowercase key) key ≡ t → values_at (low ++ key) (headers schema ws) ≡ last_at key (lowered written)
    go true e =
        let lower = same_from_test (str_to_ascii_lowercase key) key (sym e) in
        ap (λ n. values_at n (headers schema ws)) (sym (map-append _ prefix key ∙ ap (λ x. low ++ x) lower))
        ∙ headers_of_prefix schema ws i m prefix key apart at begins ∙ last_of_entries (str_to_ascii_lowercase key) (first_value schema ws i)
        ∙ ap (λ n. last_at n (lowered written)) lower
    go false e = no_upper schema ws (low ++ key) (no (same_text (str_to_ascii_lowercase (low ++ key)) (low ++ key)) refl) ∙ sym (ap (λ vs. option_to_list (last_value vs)) (not_lower key written e))
      where
        no : (s : Bool) → same_text (str_to_ascii_lowercase (low ++ key)) (low ++ key) ≡ s → s ≡ false
        no false h = refl
        no true h =
            let whole = same_from_test (str_to_ascii_lowercase (low ++ key)) (low ++ key) (sym h) in
            let split : low ++ str_to_ascii_lowercase key ≡ low ++ key = ap (λ x. x ++ str_to_ascii_lowercase key) (sym (lower_twice prefix)) ∙ sym (map-append _ low key) ∙ whole in
            let keys = append_cancel_left low (str_to_ascii_lowercase key) key split in
            let z : true ≡ false = sym (same_text_self key) ∙ ap (λ n. same_text n key) (sym keys) ∙ e in
            absurd (cc z)

-- under a default's name no entry stands
pub no_default_at : (name : List ℕ) (ps : List (List ℕ × List ℕ)) → list_all (λ (p : List ℕ × List ℕ). not (is_one_of p.0 default_names)) ps ≡ true → is_one_of name default_names ≡ true → values_at name ps ≡ []
no_default_at name ps tests is =
    nothing_at name ps
    (all_apply (λ p. not (is_one_of p.0 default_names) ≡ true) (λ p. p.0 ≢ name) ps (λ p test e. let q : false ≡ true = sym (ap not (ap (λ n. is_one_of n default_names) e ∙ is)) ∙ test in cc q)
    (all_from_test (λ (p : List ℕ × List ℕ). not (is_one_of p.0 default_names)) ps tests))

-- so behind a prefix no entry of a typed input makes one
pub no_default_behind : (protocol : Protocol) (schema : Schema) (endpoint : List ℕ) (omit : OmitFlags) (ws : List Write) (i : ℕ) (m : Schema) (prefix : List ℕ) → IsTyped protocol schema endpoint omit ws
    → member_at schema i ≡ Some m → binding_of m ≡ to_prefix prefix → (key : List ℕ) → is_one_of (str_to_ascii_lowercase prefix ++ key) default_names ≡ true → values_at key (lowered (written_pairs (first_value schema ws i))) ≡ []
no_default_behind protocol schema endpoint omit ws i m prefix typed at begins key is = go (same_text (str_to_ascii_lowercase key) key) refl (first_value schema ws i) refl
  where
    go : (t : Bool) → same_text (str_to_ascii_lowercase key) key ≡ t → (o : Option Value) → first_value schema ws i ≡ o → values_at key (lowered (written_pairs o)) ≡ []
    go false lower o e = not_lower key (written_pairs o) lower
    go true lower None e = refl
    go true lower (Some u) e =
        let one : has_no_default_name (to_prefix prefix) (at_member i m u) ≡ true =
        ap (λ b. has_no_default_name b (at_member i m u)) (sym begins) ∙ first_has (λ r. IsTrue (has_no_default_name (binding_of r.member) r)) schema ws i m u at e typed.prefixed in
        let tested : list_all (λ (p : List ℕ × List ℕ). not (is_one_of p.0 default_names)) (inserted_at (to_prefix prefix) m u) ≡ true =
        ap (λ b. list_all (λ (p : List ℕ × List ℕ). not (is_one_of p.0 default_names)) (inserted_at b m u)) (sym begins) ∙ one in
        let own = same_from_test (str_to_ascii_lowercase key) key (sym lower) in
        let name : str_to_ascii_lowercase (prefix ++ key) ≡ str_to_ascii_lowercase prefix ++ key = map-append _ prefix key ∙ ap (λ x. str_to_ascii_lowercase prefix ++ x) own in
        ap (λ n. values_at n (lowered (map_pairs u))) (sym own)
        ∙ sym (ap (values_at (str_to_ascii_lowercase (prefix ++ key))) (inserted_entries prefix m u) ∙ under_prefix prefix key (map_pairs u))
        ∙ no_default_at (str_to_ascii_lowercase (prefix ++ key)) (inserted_at (to_prefix prefix) m u) tested (ap (λ n. is_one_of n default_names) name ∙ is)

pub prefix_member_told : (protocol : Protocol) (schema : Schema) (endpoint : List ℕ) (omit : OmitFlags) (v w : List Write) → AreSeenSame protocol schema endpoint omit v w → (i : ℕ) (m : Schema) (prefix : List ℕ)
    → member_at schema i ≡ Some m → binding_of m ≡ to_prefix prefix → member_view schema v i m ≡ member_view schema w i m
prefix_member_told protocol schema endpoint omit v w are i m prefix at begins =
    bound_told protocol schema endpoint omit v w are i m (to_prefix prefix) at begins refl
    (shown v are.writes_v
    ∙ ap (λ ps. unless_empty (map_value (Some m) (valued as_text ps))) (ordered_told (lowered (written_pairs (first_value schema v i))) (lowered (written_pairs (first_value schema w i))) told)
    ∙ sym (shown w are.writes_w))
  where
    shown : (ws : List Write) → HasTypedWrites schema ws
        → option_and_then (bound_view_at (to_prefix prefix) (query_names schema) m) (first_value schema ws i) ≡ unless_empty (map_value (Some m) (valued as_text (all_put (lowered (written_pairs (first_value schema ws i))) [])))
    shown ws typed = prefix_part m (query_names schema) prefix (first_value schema ws i) (text_map_at schema are.checked i m prefix at begins) (λ u e. placed_value schema ws i m u typed at (ap is_placed_at begins) e)

    low : List ℕ
    low = str_to_ascii_lowercase prefix

    behind : (ws : List Write) (key : List ℕ) → is_one_of (low ++ key) default_names ≡ false
        → values_at (low ++ key) (all_headers protocol (body protocol.text_of schema ws) omit (headers schema ws)) ≡ last_at key (lowered (written_pairs (first_value schema ws i)))
    behind ws key outside =
        all_headers_at protocol (body protocol.text_of schema ws) omit (headers schema ws) (low ++ key) (leaves-elsewhere (body protocol.text_of schema ws) omit (headers schema ws) (low ++ key) outside)
        ∙ headers_behind schema ws i m prefix (headers_apart schema (sound_input schema are.checked)) at begins key

    none : (ws : List Write) → IsTyped protocol schema endpoint omit ws → (key : List ℕ) → is_one_of (low ++ key) default_names ≡ true → values_at key (lowered (written_pairs (first_value schema ws i))) ≡ []
    none ws typed key is = no_default_behind protocol schema endpoint omit ws i m prefix typed at begins key is

    told : (key : List ℕ) → SameLast (lowered (written_pairs (first_value schema v i))) (lowered (written_pairs (first_value schema w i))) key
    told key = go (is_one_of (low ++ key) default_names) refl
      where
        go : (t : Bool) → is_one_of (low ++ key) default_names ≡ t → SameLast (lowered (written_pairs (first_value schema v i))) (lowered (written_pairs (first_value schema w i))) key
        go true is = ap last_value (none v are.typed_v key is ∙ sym (none w are.typed_w key is))
        go false is = list-injective _ _ (sym (behind v key is) ∙ are.seen.headers (low ++ key) ∙ behind w key is)
