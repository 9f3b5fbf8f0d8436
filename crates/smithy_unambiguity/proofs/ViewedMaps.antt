-- What the normal form has for the prefix map and the query map is what a typed input may write to them.
use Rattle.smithy_unambiguity.proofs.Common.{◌≡◌, refl, sym, ◌∙◌, ap, subst, ℕ, ◌<◌, arith, nat_le, length, Bool, true, false, not, ◌&&◌, ◌||◌, ◌==◌, List, [], ◌∷◌, ◌++◌, Option, Some, None, option_and_then, is_none, IsTrue, codes, if◌then◌else◌, AllByRecursion, list_all, option_or, str_to_ascii_lowercase, is_utf8, and_parts, and_from, eqb-true, not-true, lt-ltb, leb-true, list_all-append, map-append, is_one_of, are_distinct, has_byte, is_token, is_token_byte, is_header_value, unless, lower_twice, same_kind, one_kind, Schema, member_at, element_of, key_of, value_of, to_prefix, to_query_map, binding_of, Label, Value, Writes, no_writes, write, Write, text_of_key, is_in_range, are_writes_in_range, fits, is_kind, map_value, entry_writes, own_label, no_label, firsts, inserted_at, map_entries, entries_of, entry_texts, query_names, IsCheckedInput, is_plain_string, is_plain_list, member_view, element_fault, nested_fault, part_fault, entry_fault, item_fault, wrong_item_kind, unmatched_key, ends_with_value, pairs_fault, pair_fault, wrong_header, is_placed_at, has_no_default_name, default_names, Pairs, all_put, is_low, are_low, utf8_from_low, or_cases, ⊎_elim, cond_both}
use Rattle.std.specs.Int.{is_in_range as is_between}
use Rattle.smithy_ids.specs.declared.shape_type.ShapeType.TheVariants as kind
use Rattle.smithy_serde.specs.Values as value
use Rattle.smithy_unambiguity.proofs.LastTexts.{lowered}
use Rattle.smithy_unambiguity.proofs.ByMember.{at_member}
use Rattle.smithy_unambiguity.proofs.Conforming.{no_first}
use Rattle.smithy_unambiguity.proofs.EntriesTold.{passed, text_writes, own_list, own_value, own_value_list, as_text, is_text_node, string_kind, text_part, key_texts, has_texts, query_texts, query_texts_ascend}
use Rattle.smithy_unambiguity.proofs.Headers.{prefixed, map_pairs, inserted_entries}
use Rattle.smithy_unambiguity.proofs.Lists.{both_hold, all_filter}
use Rattle.smithy_unambiguity.proofs.MapsTold.{text_map_at, query_map_at, query_map_view, prefix_map_view}
use Rattle.smithy_unambiguity.proofs.PairLemmas.{valued, AllPairs, valued_all, ordered_all, names, names-valued, ascending_distinct, ordered_ascends}
use Rattle.smithy_unambiguity.proofs.Placed.{HasTypedWrites, placed_value, first_has}
use Rattle.smithy_unambiguity.proofs.Settled.{keys_of-entry_writes}
use Rattle.smithy_unambiguity.proofs.TextsBytes.{AreUtf8, text_utf8, entry_utf8, IsEntryInRange, map_in_range}
use Rattle.smithy_unambiguity.proofs.ViewHeaders.{AreLower, lowered_ordered}
use Rattle.smithy_unambiguity.proofs.ViewTyped.{IsViewed}
use Rattle.smithy_unambiguity.proofs.ViewValues.{entries_back}
use Rattle.smithy_unambiguity.proofs.ViewedMembers.{placed_viewed, bound_made, some_left, inserts_nothing}

-- A map of entries of its nodes.

-- the key is a text, and the value is one of the map's value node
abbrev IsOwnEntry : Schema → List ℕ × Value → Type 0
IsOwnEntry m e = (is_utf8 e.0 ≡ true) × ((is_in_range e.1 ≡ true) × (part_fault m (value_of m) e.1 ≡ None))

own_in_range : (m : Schema) (k l : Label) (es : List (List ℕ × Value)) → AllByRecursion (IsOwnEntry m) es → are_writes_in_range (entry_writes k l es) ≡ true
own_in_range m k l [] all = refl
own_in_range m k l (e ∷ es) all =
    and_from (is_utf8 e.0) (is_in_range e.1 && are_writes_in_range (entry_writes k l es)) all.0.0
    (and_from (is_in_range e.1) (are_writes_in_range (entry_writes k l es)) all.0.1.0 (own_in_range m k l es all.1))

-- a text is what a String's node takes
text_fits : (m : Schema) (here : Option Schema) (t : List ℕ) → is_plain_string here ≡ true → part_fault m here (as_text t) ≡ None
text_fits m here t plain = ap (λ k. option_or (unless (fits k (as_text t)) (wrong_item_kind m k (as_text t))) (nested_fault m here (as_text t))) (string_kind here plain)

no_entry_fault : (m : Schema) (k l : Label) (es : List (List ℕ × Value)) → is_plain_string (key_of m) ≡ true → AllByRecursion (IsOwnEntry m) es → entry_fault m (key_of m) (value_of m) (entry_writes k l es) ≡ None
no_entry_fault m k l [] plain all = refl
no_entry_fault m k l (e ∷ es) plain all =
    ap (λ o. option_or o (entry_fault m (value_of m) (key_of m) (write l e.1 (entry_writes k l es)))) (text_fits m (key_of m) e.0 plain)
    ∙ ap (λ o. option_or o (entry_fault m (key_of m) (value_of m) (entry_writes k l es))) all.0.1.1 ∙ no_entry_fault m k l es plain all.1

entries_end : (k l : Label) (es : List (List ℕ × Value)) → ends_with_value (entry_writes k l es) ≡ true
entries_end k l [] = refl
entries_end k l (e ∷ es) = entries_end k l es

map_viewed : (m : Schema) (es : List (List ℕ × Value)) → (same_kind m.node.kind kind.Map && is_plain_string (key_of m)) ≡ true → is_placed_at (binding_of m) ≡ true → AllByRecursion (IsOwnEntry m) es → are_distinct (names es) ≡ true
    → pairs_fault m (inserted_at (binding_of m) m (map_value (Some m) es)) ≡ None → has_no_default_name (binding_of m) (at_member 0 m (map_value (Some m) es)) ≡ true → IsViewed m (map_value (Some m) es)
map_viewed m es map placed all distinct headers unlike =
    let a = and_parts (same_kind m.node.kind kind.Map) (is_plain_string (key_of m)) map in
    let k : Label = own_label (key_of m) no_label in
    let l : Label = own_label (value_of m) no_label in
    let u : Value = map_value (Some m) es in
    placed_viewed m u [] placed
    (record { fits = ap (λ k. fits k u) (one_kind m.node.kind kind.Map a.0); in_range = own_in_range m k l es all; items = no_entry_fault m k l es a.1 all; formats = refl })
    (ap are_distinct (keys_of-entry_writes k l es) ∙ distinct)
    (ap (λ t. unless t (unmatched_key m)) (entries_end k l es)) refl headers unlike

-- The entries of a map that was written.

parts_fit : (m : Schema) (keys values : Option Schema) (ws : Writes) → entry_fault m keys values ws ≡ None → AllByRecursion (λ (e : List ℕ × Value). part_fault m values e.1 ≡ None) (entries_of ws)
parts_fit m keys values no_writes fault = tt
parts_fit m keys values (write k key no_writes) fault = tt
parts_fit m keys values (write k key (write l v ws)) fault =
    let a = no_first (part_fault m keys key) (entry_fault m values keys (write l v ws)) fault in
    let b = no_first (part_fault m values v) (entry_fault m keys values ws) a.1 in
    (b.0, parts_fit m keys values ws b.1)

entries_fit : (m : Schema) (v : Value) → item_fault m v ≡ None → AllByRecursion (λ (e : List ℕ × Value). part_fault m (value_of m) e.1 ≡ None) (map_entries v)
entries_fit m (value.map ws) fault = parts_fit m (key_of m) (value_of m) ws fault
entries_fit m (value.scalar s) fault = tt
entries_fit m (value.list ws) fault = tt
entries_fit m (value.structure ws) fault = tt

-- The query map.

text_writes_in_range : (l : Label) (ts : List (List ℕ)) → AreUtf8 ts → are_writes_in_range (text_writes l ts) ≡ true
text_writes_in_range l [] utf8 = refl
text_writes_in_range l (t ∷ ts) utf8 = and_from (is_utf8 t) (are_writes_in_range (text_writes l ts)) utf8.0 (text_writes_in_range l ts utf8.1)

own_value_in_range : (here : Option Schema) (ts : List (List ℕ)) → AreUtf8 ts → is_in_range (own_value here ts) ≡ true
own_value_in_range here [] utf8 = refl
own_value_in_range here (t ∷ []) utf8 =
    cond_both (is_kind kind.String here) (as_text t) (own_list here (t ∷ [])) (λ v. is_in_range v ≡ true) (λ e. utf8.0) (λ e. text_writes_in_range (own_label (option_and_then element_of here) no_label) (t ∷ []) utf8)
own_value_in_range here (t ∷ u ∷ ts) utf8 = text_writes_in_range (own_label (option_and_then element_of here) no_label) (t ∷ u ∷ ts) utf8

texts_fit : (m : Schema) (l : Label) (ts : List (List ℕ)) → element_fault m kind.String (text_writes l ts) ≡ None
texts_fit m l [] = refl
texts_fit m l (t ∷ ts) = texts_fit m l ts

own_value_fits : (m : Schema) (here : Option Schema) (v : Value) → is_text_node here ≡ true → part_fault m here v ≡ None → part_fault m here (own_value here (entry_texts v)) ≡ None
own_value_fits m None v node fault = absurd (cc node)
own_value_fits m (Some s) v node fault = go (is_plain_string (Some s)) refl node
  where
    go : (t : Bool) → is_plain_string (Some s) ≡ t → (t || is_plain_list (Some s)) ≡ true → part_fault m (Some s) (own_value (Some s) (entry_texts v)) ≡ None
    go true plain h =
        let x = text_part m (Some s) v plain fault in
        let string = (and_parts (same_kind s.node.kind kind.String) (is_none s.node.traits.media_type) plain).0 in
        ap (λ u. part_fault m (Some s) (own_value (Some s) (entry_texts u))) x.1
        ∙ ap (λ b. part_fault m (Some s) (if b then as_text x.0 else own_list (Some s) (x.0 ∷ []))) string ∙ text_fits m (Some s) x.0 plain
    go false plain h =
        let a = and_parts (same_kind s.node.kind kind.List && is_none s.node.traits.media_type) (is_plain_string (element_of s)) h in
        let list = one_kind s.node.kind kind.List (and_parts (same_kind s.node.kind kind.List) (is_none s.node.traits.media_type) a.0).0 in
        let u : Value = own_list (Some s) (entry_texts v) in
        ap (part_fault m (Some s)) (own_value_list (Some s) (entry_texts v) (ap (λ k. same_kind k kind.String) list))
        ∙ ap (λ k. option_or (unless (fits k u) (wrong_item_kind m k u)) (nested_fault m (Some s) u)) list
        ∙ ap (λ k. element_fault m k (text_writes (own_label (element_of s) no_label) (entry_texts v))) (string_kind (element_of s) a.1)
        ∙ texts_fit m (own_label (element_of s) no_label) (entry_texts v)

-- texts of which the normal form makes a value of the node
abbrev AreOwn : Schema → List (List ℕ) → Type 0
AreOwn m ts = AreUtf8 ts × (part_fault m (value_of m) (own_value (value_of m) ts) ≡ None)

query_entries_own : (m : Schema) (others : List (List ℕ)) (v : Value) → is_text_node (value_of m) ≡ true → is_in_range v ≡ true → item_fault m v ≡ None → AllByRecursion (IsOwnEntry m) (valued (own_value (value_of m)) (query_texts others (key_texts v)))
query_entries_own m others v node range fault =
    valued_all (λ (p : List ℕ × List (List ℕ)). (is_utf8 p.0 ≡ true) × AreOwn m p.1) (λ k. is_utf8 k ≡ true) (λ u. (is_in_range u ≡ true) × (part_fault m (value_of m) u ≡ None)) (own_value (value_of m))
    (λ p own. (own.0, (own_value_in_range (value_of m) p.1 own.1.0, own.1.1))) (query_texts others (key_texts v))
    (all_filter (λ (p : List ℕ × List (List ℕ)). (is_utf8 p.0 ≡ true) × AreOwn m p.1) (has_texts others) (all_put (key_texts v) []) (ordered_all (λ k. is_utf8 k ≡ true) (AreOwn m) (key_texts v) written))
  where
    written : AllPairs (λ k. is_utf8 k ≡ true) (AreOwn m) (key_texts v)
    written =
        valued_all (λ (e : List ℕ × Value). IsEntryInRange e × (part_fault m (value_of m) e.1 ≡ None)) (λ k. is_utf8 k ≡ true) (AreOwn m) entry_texts
        (λ e both. (both.0.0, (entry_utf8 e.1 both.0.1, own_value_fits m (value_of m) e.1 node both.1))) (map_entries v)
        (both_hold IsEntryInRange (λ (e : List ℕ × Value). part_fault m (value_of m) e.1 ≡ None) (map_entries v) (map_in_range v range) (entries_fit m v fault))

pub query_map_viewed : (schema : Schema) (ws : List Write) (i : ℕ) (m : Schema) (u : Value) → IsCheckedInput schema → HasTypedWrites schema ws → member_at schema i ≡ Some m → binding_of m ≡ to_query_map → member_view schema ws i m ≡ Some u → IsViewed m u
query_map_viewed schema ws i m u checked typed at query_map e =
    let x = bound_made schema ws i m u to_query_map at query_map refl e in
    let placed : is_placed_at (binding_of m) ≡ true = ap is_placed_at query_map in
    let is = placed_value schema ws i m x.from typed at placed x.is in
    let sound = query_map_at schema checked i m at query_map in
    let parts = and_parts (same_kind m.node.kind kind.Map && is_plain_string (key_of m)) (is_text_node (value_of m)) sound in
    let qs = query_texts (query_names schema) (key_texts x.from) in
    let es = valued (own_value (value_of m)) qs in
    subst (IsViewed m) (some_left (map_value (Some m) es) u (sym (query_map_view m (query_names schema) x.from sound is) ∙ x.gives))
    (map_viewed m es parts.0 placed (query_entries_own m (query_names schema) x.from parts.1 is.value.in_range is.value.items)
    (ap are_distinct (names-valued (own_value (value_of m)) qs) ∙ ascending_distinct qs (query_texts_ascend (query_names schema) (key_texts x.from)))
    (ap (λ c. pairs_fault m (inserted_at c m (map_value (Some m) es))) query_map)
    (ap (λ c. has_no_default_name c (at_member 0 m (map_value (Some m) es))) query_map ∙ inserts_nothing m (map_value (Some m) es) to_query_map query_map refl))

-- The prefix map.

-- what is asked of an entry's key behind a prefix
record IsPrefixKey (prefix key : List ℕ) : Type 0 where
  token : is_token (str_to_ascii_lowercase (prefix ++ key)) ≡ true
  unlike : is_one_of (str_to_ascii_lowercase (prefix ++ key)) default_names ≡ false

-- and of its text
abbrev IsValueText : List ℕ → Type 0
IsValueText t = (is_header_value t ≡ true) × (is_utf8 t ≡ true)

lower_key : (prefix key : List ℕ) → str_to_ascii_lowercase (prefix ++ str_to_ascii_lowercase key) ≡ str_to_ascii_lowercase (prefix ++ key)
lower_key prefix key = map-append _ prefix (str_to_ascii_lowercase key) ∙ ap (λ k. str_to_ascii_lowercase prefix ++ k) (lower_twice key) ∙ sym (map-append _ prefix key)

-- what stands behind a prefix, from what a write of it inserts
prefix_facts : (m : Schema) (prefix : List ℕ) (ps : List (List ℕ × List ℕ)) → pairs_fault m (prefixed prefix ps) ≡ None → list_all (λ (p : List ℕ × List ℕ). not (is_one_of p.0 default_names)) (prefixed prefix ps) ≡ true → AllPairs (λ k. is_utf8 k ≡ true) (λ t. is_utf8 t ≡ true) ps
    → AllPairs (IsPrefixKey prefix) IsValueText (lowered ps)
prefix_facts m prefix [] fault apart utf8 = tt
prefix_facts m prefix (p ∷ ps) fault apart utf8 =
    let name : List ℕ = str_to_ascii_lowercase (prefix ++ p.0) in
    let a = no_first (pair_fault m (name, p.1)) (pairs_fault m (prefixed prefix ps)) fault in
    let b = no_first (unless (is_token name) (wrong_header m (codes "invalid header name"))) (unless (is_header_value p.1) (wrong_header m (codes "invalid header value"))) a.0 in
    let c = and_parts (not (is_one_of name default_names)) (list_all (λ (p : List ℕ × List ℕ). not (is_one_of p.0 default_names)) (prefixed prefix ps)) apart in
    let key : IsPrefixKey prefix (str_to_ascii_lowercase p.0) = record {
      token = ap is_token (lower_key prefix p.0) ∙ passed (is_token name) (wrong_header m (codes "invalid header name")) b.0;
      unlike = ap (λ n. is_one_of n default_names) (lower_key prefix p.0) ∙ not-true (is_one_of name default_names) c.0;
    } in
    ((key, (passed (is_header_value p.1) (wrong_header m (codes "invalid header value")) b.1, utf8.0.1)), prefix_facts m prefix ps a.1 c.1 utf8.1)

prefix_keeps : (m : Schema) (prefix : List ℕ) (qs : List (List ℕ × List ℕ)) → AllPairs (IsPrefixKey prefix) IsValueText qs
    → (pairs_fault m (prefixed prefix qs) ≡ None) × (list_all (λ (p : List ℕ × List ℕ). not (is_one_of p.0 default_names)) (prefixed prefix qs) ≡ true)
prefix_keeps m prefix [] all = (refl, refl)
prefix_keeps m prefix (q ∷ qs) all =
    let rest = prefix_keeps m prefix qs all.1 in
    let name : List ℕ = str_to_ascii_lowercase (prefix ++ q.0) in (
      ap (λ t. option_or (option_or (unless t (wrong_header m (codes "invalid header name"))) (unless (is_header_value q.1) (wrong_header m (codes "invalid header value")))) (pairs_fault m (prefixed prefix qs))) all.0.0.token
          ∙ ap (λ t. option_or (unless t (wrong_header m (codes "invalid header value"))) (pairs_fault m (prefixed prefix qs))) all.0.1.0 ∙ rest.0,
      and_from (not (is_one_of name default_names)) (list_all (λ (p : List ℕ × List ℕ). not (is_one_of p.0 default_names)) (prefixed prefix qs)) (ap not all.0.0.unlike) rest.1,
    )

-- The bytes of a token are ASCII.

any_low : (b : ℕ) (cs : List ℕ) → has_byte b cs ≡ true → are_low cs ≡ true → is_low b ≡ true
any_low b [] e low = absurd (cc e)
any_low b (c ∷ cs) e low =
    let lows = and_parts (is_low c) (are_low cs) low in
    ⊎_elim (λ q. ap is_low (sym (eqb-true c b q)) ∙ lows.0) (λ h. any_low b cs h lows.1) (or_cases (c == b) (has_byte b cs) e)

between_low : (low high b : ℕ) → high < 128 → is_between low high b ≡ true → is_low b ≡ true
between_low low high b small e = let h = leb-true b high (and_parts (nat_le low b) (nat_le b high) e).1 in lt-ltb b 128 (omega (arith, small, h))

token_byte_low : (b : ℕ) → is_token_byte b ≡ true → is_low b ≡ true
token_byte_low b e =
    ⊎_elim
    (λ q. ⊎_elim (λ r. ⊎_elim (between_low 48 57 b (omega arith)) (between_low 65 90 b (omega arith)) (or_cases (is_between 48 57 b) (is_between 65 90 b) r))
    (between_low 97 122 b (omega arith)) (or_cases (is_between 48 57 b || is_between 65 90 b) (is_between 97 122 b) q))
    (λ h. any_low b (codes "!#$%&'*+-.^_`|~") h refl) (or_cases ((is_between 48 57 b || is_between 65 90 b) || is_between 97 122 b) (has_byte b (codes "!#$%&'*+-.^_`|~")) e)

token_bytes_low : (name : List ℕ) → list_all is_token_byte name ≡ true → are_low name ≡ true
token_bytes_low [] e = refl
token_bytes_low (b ∷ name) e =
    let parts = and_parts (is_token_byte b) (list_all is_token_byte name) e in
    and_from (is_low b) (are_low name) (token_byte_low b parts.0) (token_bytes_low name parts.1)

-- so a lower-case key behind a prefix is UTF-8
key_is_utf8 : (prefix key : List ℕ) → str_to_ascii_lowercase key ≡ key → is_token (str_to_ascii_lowercase (prefix ++ key)) ≡ true → is_utf8 key ≡ true
key_is_utf8 prefix key lower token =
    let bytes = (and_parts (not (length (str_to_ascii_lowercase (prefix ++ key)) == 0)) (list_all is_token_byte (str_to_ascii_lowercase (prefix ++ key))) token).1 in
    let split = sym (list_all-append is_token_byte (str_to_ascii_lowercase prefix) (str_to_ascii_lowercase key)) ∙ ap (list_all is_token_byte) (sym (map-append _ prefix key)) ∙ bytes in
    let own = (and_parts (list_all is_token_byte (str_to_ascii_lowercase prefix)) (list_all is_token_byte (str_to_ascii_lowercase key)) split).1 in
    utf8_from_low key (token_bytes_low key (ap (list_all is_token_byte) (sym lower) ∙ own))

prefix_entries_own : (m : Schema) (prefix : List ℕ) (qs : Pairs (List ℕ)) → is_plain_string (value_of m) ≡ true → AllPairs (IsPrefixKey prefix) IsValueText qs → AreLower qs → AllByRecursion (IsOwnEntry m) (valued as_text qs)
prefix_entries_own m prefix [] plain all lower = tt
prefix_entries_own m prefix (q ∷ qs) plain all lower =
    ((key_is_utf8 prefix q.0 lower.0.0 all.0.0.token, (all.0.1.1, text_fits m (value_of m) q.1 plain)), prefix_entries_own m prefix qs plain all.1 lower.1)

pub prefix_viewed : (schema : Schema) (ws : List Write) (i : ℕ) (m : Schema) (prefix : List ℕ) (u : Value) → IsCheckedInput schema → HasTypedWrites schema ws → AllByRecursion (λ r. IsTrue (has_no_default_name (binding_of r.member) r)) (firsts schema ws)
    → member_at schema i ≡ Some m → binding_of m ≡ to_prefix prefix → member_view schema ws i m ≡ Some u → IsViewed m u
prefix_viewed schema ws i m prefix u checked typed prefixes at begins e =
    let x = bound_made schema ws i m u (to_prefix prefix) at begins refl e in
    let placed : is_placed_at (binding_of m) ≡ true = ap is_placed_at begins in
    let is = placed_value schema ws i m x.from typed at placed x.is in
    let sound = text_map_at schema checked i m prefix at begins in
    let parts = and_parts (same_kind m.node.kind kind.Map && is_plain_string (key_of m)) (is_plain_string (value_of m)) sound in
    let ps = map_pairs x.from in
    let qs = all_put (lowered ps) [] in
    let es = valued as_text qs in
    let own : inserted_at (binding_of m) m x.from ≡ prefixed prefix ps = ap (λ c. inserted_at c m x.from) begins ∙ inserted_entries prefix m x.from in
    let unlike : has_no_default_name (to_prefix prefix) (at_member i m x.from) ≡ true =
    ap (λ b. has_no_default_name b (at_member i m x.from)) (sym begins) ∙ first_has (λ r. IsTrue (has_no_default_name (binding_of r.member) r)) schema ws i m x.from at x.is prefixes in
    let apart : list_all (λ (p : List ℕ × List ℕ). not (is_one_of p.0 default_names)) (prefixed prefix ps) ≡ true =
    ap (list_all (λ (p : List ℕ × List ℕ). not (is_one_of p.0 default_names))) (sym own) ∙ unlike in
    let all : AllPairs (IsPrefixKey prefix) IsValueText qs =
    ordered_all (IsPrefixKey prefix) IsValueText (lowered ps) (prefix_facts m prefix ps (ap (pairs_fault m) (sym own) ∙ is.headers) apart
    (valued_all IsEntryInRange (λ k. is_utf8 k ≡ true) (λ t. is_utf8 t ≡ true) text_of_key (λ e range. (range.0, text_utf8 e.1 range.1)) (map_entries x.from) (map_in_range x.from is.value.in_range))) in
    let inserts : inserted_at (to_prefix prefix) m (map_value (Some m) es) ≡ prefixed prefix qs =
    inserted_entries prefix m (map_value (Some m) es) ∙ ap (prefixed prefix) (entries_back (own_label (key_of m) no_label) (own_label (value_of m) no_label) as_text text_of_key (λ t. refl) qs) in
    let kept = prefix_keeps m prefix qs all in
    subst (IsViewed m) (some_left (map_value (Some m) es) u (sym (prefix_map_view m (query_names schema) prefix x.from sound is) ∙ x.gives))
    (map_viewed m es parts.0 placed (prefix_entries_own m prefix qs parts.1 all (lowered_ordered ps))
    (ap are_distinct (names-valued as_text qs) ∙ ascending_distinct qs (ordered_ascends (lowered ps)))
    (ap (λ c. pairs_fault m (inserted_at c m (map_value (Some m) es))) begins ∙ ap (pairs_fault m) inserts ∙ kept.0)
    (ap (λ c. has_no_default_name c (at_member 0 m (map_value (Some m) es))) begins
    ∙ ap (λ c. list_all (λ (p : List ℕ × List ℕ). not (is_one_of p.0 default_names)) (inserted_at c m (map_value (Some m) es))) begins
    ∙ ap (list_all (λ (p : List ℕ × List ℕ). not (is_one_of p.0 default_names))) inserts ∙ kept.1))
