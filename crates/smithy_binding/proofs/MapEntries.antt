-- The entries of a map, an entry at a time.
use Rattle.smithy_binding.proofs.Common.{◌≡◌, refl, ap, sym, ◌∙◌, ℕ, zero, suc, ◌+◌, ◌*◌, ◌/◌, ◌%◌, ◌<◌, ◌≤◌, Bool, true, false, not, ◌||◌, ◌==◌, cond, List, [], ◌∷◌, ◌++◌, append_assoc, length, drop, filter, filter_map, flat_map, map, slice_get, arith, Option, Some, None, is_some, option_and_then, if◌then◌else◌, cons_option, option_map_or, option_or, bytes_eq, str_to_ascii_lowercase, drop_of_length-le, append-nil, is_one_of, same_text, Schema, Table, member_at, to_query_map, fits, value_in, listed, Value, list, Writes, no_writes, write, Write, list_of, text_of_key, OneWrite, kind_or_none, entries_of, pairs_at, text_at, pairs_at_place, entry_pairs, Fault, wrong_item_kind, nested_fault, part_fault, entry_fault, item_fault, key_fault, value_fault, ends_with_value, pair_fault, pairs_fault, queries}
use Rattle.smithy_serde.specs.Values as value
use Rattle.smithy_binding.specs.NormalForm.{has_key_outside}
use Rattle.smithy_binding.proofs.DistinctNames.{same_text-sym}
use Rattle.smithy_binding.proofs.ElementSteps.{queries-append}
use Rattle.smithy_binding.proofs.MemberSteps.{members_from, members_from-more}

-- a key or a value further
module _ (t : Table) (m : Schema) (this next : Option Schema) (x : OneWrite) (rest more : List OneWrite) (steps : rest ≡ x ∷ more) where
  pub entry-more : part_fault m this (value_in t x.value) ≡ None → entry_fault m this next (listed t rest) ≡ entry_fault m next this (listed t more)
  entry-more fit = rw (steps, fit) refl

  pub entry-stop : (f : Fault) → part_fault m this (value_in t x.value) ≡ Some f → entry_fault m this next (listed t rest) ≡ Some f
  entry-stop f wrong = rw (steps, wrong) refl

pub entry-end : (t : Table) (m : Schema) (this next : Option Schema) (rest : List OneWrite) → rest ≡ [] → entry_fault m this next (listed t rest) ≡ None
entry-end t m this next rest none = rw none refl

-- a part of another kind, or one whose elements decide
pub part-wrong : (m : Schema) (here : Option Schema) (v : Value) → fits (kind_or_none here) v ≡ false → part_fault m here v ≡ Some (wrong_item_kind m (kind_or_none here) v)
part-wrong m here v wrong = rw wrong refl

pub part-fits : (m : Schema) (here : Option Schema) (v : Value) → fits (kind_or_none here) v ≡ true → part_fault m here v ≡ nested_fault m here v
part-fits m here v fit = rw fit refl

-- keys and values in turn end with a value where there are as many of them
pub ends-even : (ws : Writes) → (length (list_of ws) % 2 == 0) ≡ ends_with_value ws
ends-even no_writes = refl
ends-even (write k key no_writes) = refl
ends-even (write k key (write l v ws)) = let same : suc (suc (length (list_of ws))) % 2 ≡ length (list_of ws) % 2 = omega arith in rw same (ends-even ws)

-- the fault of a map: of its items, or else of its last key
pub map-item : (m : Schema) (ws : Writes) (f : Fault) → item_fault m (value.map ws) ≡ Some f → value_fault m (value.map ws) ≡ Some f
map-item m ws f e = rw e refl

pub map-key : (m : Schema) (ws : Writes) (f : Fault) → item_fault m (value.map ws) ≡ None → key_fault m (value.map ws) ≡ Some f → value_fault m (value.map ws) ≡ Some f
map-key m ws f e k = rw (e, k) refl

pub map-whole : (m : Schema) (ws : Writes) → item_fault m (value.map ws) ≡ None → ends_with_value ws ≡ true → value_fault m (value.map ws) ≡ None
map-whole m ws e k = rw (e, k) refl

-- the entry at a place
record EntryAt (ws : Writes) (i : ℕ) : Type 0 where
  value : Write
  at : slice_get (list_of ws) (2 * i + 1) ≡ Some value
  here : drop i (entries_of ws) ≡ (text_at ws (2 * i), value.value) ∷ drop (i + 1) (entries_of ws)

later-write : (k l : value.Label) (key v : Value) (ws : Writes) (n j : ℕ) → n ≡ suc (suc j) → slice_get (list_of (write k key (write l v ws))) n ≡ slice_get (list_of ws) j
later-write k l key v ws n j e = rw e refl

entry-at : (ws : Writes) (i : ℕ) → 2 * i + 1 < length (list_of ws) → EntryAt ws i
entry-at no_writes i low = absurd (omega (arith, low))
entry-at (write k key no_writes) i low = absurd (omega (arith, low))
entry-at (write k key (write l v ws)) zero low = record { value = record { label = l; value = v }; at = refl; here = refl }
entry-at (write k key (write l v ws)) (suc i) low =
    let later = entry-at ws i (omega (arith, low)) in
    let first = later-write k l key v ws (2 * suc i) (2 * i) (omega arith) in
    let next : suc i + 1 ≡ suc (i + 1) = omega arith in
    record {
      value = later.value;
      at = later-write k l key v ws (2 * suc i + 1) (2 * i + 1) (omega arith) ∙ later.at;
      here = rw next (later.here ∙ sym (ap (λ o. (option_map_or (λ w. text_of_key w.value) o [], later.value.value) ∷ drop (i + 1) (entries_of ws)) first));
    }

entries-end : (ws : Writes) (i : ℕ) → length (list_of ws) < 2 * i + 2 → drop i (entries_of ws) ≡ []
entries-end no_writes zero high = refl
entries-end no_writes (suc i) high = refl
entries-end (write k key no_writes) zero high = refl
entries-end (write k key no_writes) (suc i) high = refl
entries-end (write k key (write l v ws)) zero high = absurd (omega (arith, high))
entries-end (write k key (write l v ws)) (suc i) high = entries-end ws i (omega (arith, high))

-- the header of an entry, and those of the entries from one on
abbrev pub header_of : List ℕ → List ℕ → List ℕ → List ℕ × List ℕ
header_of prefix key v = (str_to_ascii_lowercase (prefix ++ key), v)

abbrev pub headers_from : List ℕ → Writes → ℕ → List (List ℕ × List ℕ)
headers_from prefix ws i = map (λ e. header_of prefix e.0 (text_of_key e.1)) (drop i (entries_of ws))

pub headers-at : (prefix : List ℕ) (ws : Writes) (i : ℕ) (key v : List ℕ) {n : ℕ} → n ≡ length (list_of ws) → i < n / 2 → key ≡ text_at ws (2 * i) → v ≡ text_at ws (2 * i + 1)
    → headers_from prefix ws i ≡ header_of prefix key v ∷ headers_from prefix ws (i + 1)
headers-at prefix ws i key v all low k e =
    let entry = entry-at ws i (omega (arith, all, low)) in
    let text : v ≡ text_of_key entry.value.value = e ∙ ap (λ o. option_map_or (λ w. text_of_key w.value) o []) entry.at in
    ap (map (λ e. header_of prefix e.0 (text_of_key e.1))) entry.here ∙ sym (λ j. header_of prefix (k j) (text j) ∷ headers_from prefix ws (i + 1))

pub headers-end : (prefix : List ℕ) (ws : Writes) (i : ℕ) {n : ℕ} → n ≡ length (list_of ws) → n / 2 ≤ i → headers_from prefix ws i ≡ []
headers-end prefix ws i all high = ap (map (λ e. header_of prefix e.0 (text_of_key e.1))) (entries-end ws i (omega (arith, all, high)))

pub pairs_fault-more : (m : Schema) (p : List ℕ × List ℕ) (ps : List (List ℕ × List ℕ)) → pairs_fault m (p ∷ []) ≡ None → pairs_fault m (p ∷ ps) ≡ pairs_fault m ps
pairs_fault-more m p ps e = go (pair_fault m p) e
  where
    go : (o : Option Fault) → option_or o None ≡ None → option_or o (pairs_fault m ps) ≡ pairs_fault m ps
    go None e = refl
    go (Some f) e = absurd (cc e)

pub pairs_fault-stop : (m : Schema) (p : List ℕ × List ℕ) (ps : List (List ℕ × List ℕ)) (f : Fault) → pairs_fault m (p ∷ []) ≡ Some f → pairs_fault m (p ∷ ps) ≡ Some f
pairs_fault-stop m p ps f e = go (pair_fault m p) e
  where
    go : (o : Option Fault) → option_or o None ≡ Some f → option_or o (pairs_fault m ps) ≡ Some f
    go None e = absurd (cc e)
    go (Some g) e = e

-- the pairs of the entries from one on whose keys do not pass a test
abbrev pub kept_from : (List ℕ → Bool) → Writes → ℕ → List (List ℕ × List ℕ)
kept_from test ws i = flat_map entry_pairs (filter (λ e. not (test e.0)) (drop i (entries_of ws)))

pub kept-all : (test : List ℕ → Bool) (names : List (List ℕ)) (m : Schema) (ws : Writes) → ((name : List ℕ) → test name ≡ is_one_of name names)
    → kept_from test ws 0 ≡ pairs_at to_query_map names m (value.map ws)
kept-all test names m ws same = ap (flat_map entry_pairs) (go (entries_of ws))
  where
    go : (es : List (List ℕ × Value)) → filter (λ e. not (test e.0)) es ≡ filter (has_key_outside names) es
    go [] = refl
    go (e ∷ es) = rw (same e.0, go es) refl

pub kept-at : (test : List ℕ → Bool) (ws : Writes) (i : ℕ) (key : List ℕ) {n : ℕ} → n ≡ length (list_of ws) → i < n / 2 → key ≡ text_at ws (2 * i)
    → kept_from test ws i ≡ (if test key then [] else pairs_at_place ws (2 * i + 1) key) ++ kept_from test ws (i + 1)
kept-at test ws i key all low k =
    let entry = entry-at ws i (omega (arith, all, low)) in
    let rest = filter (λ e. not (test e.0)) (drop (i + 1) (entries_of ws)) in
    ap (λ es. flat_map entry_pairs (filter (λ e. not (test e.0)) es)) entry.here
    ∙ go (text_at ws (2 * i)) entry.value.value rest (test (text_at ws (2 * i)))
    ∙ sym (ap (λ o. (if test (text_at ws (2 * i)) then [] else option_map_or (λ w. entry_pairs (text_at ws (2 * i), w.value)) o []) ++ flat_map entry_pairs rest) entry.at)
    ∙ sym (ap (λ x. (if test x then [] else pairs_at_place ws (2 * i + 1) x) ++ flat_map entry_pairs rest) k)
  where
    go : (key : List ℕ) (v : Value) (rest : List (List ℕ × Value)) (b : Bool)
        → flat_map entry_pairs (if not b then (key, v) ∷ rest else rest) ≡ (if b then [] else entry_pairs (key, v)) ++ flat_map entry_pairs rest
    go key v rest true = refl
    go key v rest false = refl

pub kept-end : (test : List ℕ → Bool) (ws : Writes) (i : ℕ) {n : ℕ} → n ≡ length (list_of ws) → n / 2 ≤ i → kept_from test ws i ≡ []
kept-end test ws i all high = ap (λ es. flat_map entry_pairs (filter (λ e. not (test e.0)) es)) (entries-end ws i (omega (arith, all, high)))

-- some pairs are in the query, and some are to come
pub pairs-push : (old now : List ℕ) (here rest : List (List ℕ × List ℕ)) → now ≡ old ++ queries here → now ++ queries rest ≡ old ++ queries (here ++ rest)
pairs-push old now here rest e = ap (λ xs. xs ++ queries rest) e ∙ append_assoc old (queries here) (queries rest) ∙ ap (λ xs. old ++ xs) (sym (queries-append here rest))

-- a text of an entry's list further
pub texts-push : (t : Table) (old now key text : List ℕ) (x : OneWrite) (rest more : List OneWrite) → rest ≡ x ∷ more → text ≡ text_of_key (value_in t x.value) → now ≡ old ++ queries ((key, text) ∷ [])
    → now ++ queries (entry_pairs (key, list (listed t more))) ≡ old ++ queries (entry_pairs (key, list (listed t rest)))
texts-push t old now key text x rest more steps is put =
    pairs-push old now ((key, text) ∷ []) (entry_pairs (key, list (listed t more))) put
    ∙ ap (λ y. old ++ queries ((key, y) ∷ entry_pairs (key, list (listed t more)))) is
    ∙ sym (ap (λ xs. old ++ queries (entry_pairs (key, list (listed t xs)))) steps)

pub texts-end : (t : Table) (now key : List ℕ) (rest : List OneWrite) → rest ≡ [] → now ++ queries (entry_pairs (key, list (listed t rest))) ≡ now
texts-end t now key rest none = ap (λ xs. now ++ queries (entry_pairs (key, list (listed t xs)))) none ∙ append-nil now

-- the query names from a position on
abbrev pub names_from : Schema → ℕ → List (List ℕ)
names_from schema i = filter_map (λ m. m.node.traits.http_query) (members_from schema i)

abbrev pub name_at : Schema → ℕ → Option (List ℕ)
name_at schema i = option_and_then (λ m. m.node.traits.http_query) (member_at schema i)

pub names-at : (schema : Schema) (i : ℕ) → names_from schema i ≡ cons_option (name_at schema i) (names_from schema (i + 1))
names-at schema i = ap (filter_map (λ m. m.node.traits.http_query)) (members_from-more schema i) ∙ first (member_at schema i) (members_from schema (i + 1))
  where
    first : (o : Option Schema) (ms : List Schema)
        → filter_map (λ m. m.node.traits.http_query) (cons_option o ms) ≡ cons_option (option_and_then (λ m. m.node.traits.http_query) o) (filter_map (λ m. m.node.traits.http_query) ms)
    first None ms = refl
    first (Some m) ms = refl

pub names-end : (schema : Schema) (i : ℕ) → length schema.node.members ≤ i → names_from schema i ≡ []
names-end schema i l = rw (drop_of_length-le schema.node.members l) refl

-- a name that is put among the names, or stands behind them
pub names-more : (n : List ℕ) (rest : List (List ℕ)) (k : ℕ) (before after : List ℕ → Option ℕ) → ((q : List ℕ) → after q ≡ cond (bytes_eq n q) (Some k) (before q))
    → (q : List ℕ) → (is_some (after q) || is_one_of q rest) ≡ (is_some (before q) || is_one_of q (n ∷ rest))
names-more n rest k before after new q = ap (λ o. is_some o || is_one_of q rest) (new q) ∙ go (same_text n q) refl (is_some (before q)) refl
  where
    go : (b : Bool) → same_text n q ≡ b → (c : Bool) → is_some (before q) ≡ c
        → (is_some (cond b (Some k) (before q)) || is_one_of q rest) ≡ (is_some (before q) || (same_text q n || is_one_of q rest))
    go true e true f = rw f refl
    go true e false f = rw (f, same_text-sym q n ∙ e) refl
    go false e c f = rw (same_text-sym q n ∙ e) refl

pub names-done : (b : Bool) → b ≡ (b || false)
names-done true = refl
names-done false = refl

pub names-put : (schema : Schema) (i : ℕ) (n : List ℕ) (k : ℕ) (before after : List ℕ → Option ℕ) → Some n ≡ name_at schema i → ((q : List ℕ) → after q ≡ cond (bytes_eq n q) (Some k) (before q))
    → (q : List ℕ) → (is_some (after q) || is_one_of q (names_from schema (i + 1))) ≡ (is_some (before q) || is_one_of q (names_from schema i))
names-put schema i n k before after e new q =
    names-more n (names_from schema (i + 1)) k before after new q
    ∙ ap (λ (ns : List (List ℕ)). is_some (before q) || is_one_of q ns) (ap (λ o. cons_option o (names_from schema (i + 1))) e ∙ sym (names-at schema i))

pub names-skip : (schema : Schema) (i : ℕ) → None ≡ name_at schema i → names_from schema (i + 1) ≡ names_from schema i
names-skip schema i e = ap (λ o. cons_option o (names_from schema (i + 1))) e ∙ sym (names-at schema i)
