-- Entries that are put one after another.
use Rattle.std.proofs.Common.{◌≡◌, refl, sym, ◌∙◌, ap, subst, cond, arith, ℕ, ◌+◌, ◌<◌, ◌==◌, Bool, true, false, ◌&&◌, List, [], ◌∷◌, ◌++◌, length, map, drop, get_or, Option, Some, None, String, Global, option_map, option_and_then, unwrap_or, is_some, string_bytes, string_cmp, append_assoc}
use Rattle.std.specs.BTreeMap.{BTreeMap, insert_entry, get_by_text}
use Rattle.std.specs.Cmp.Lexicographic.{slice_cmp}
use Rattle.std.specs.List.{list_all, cons_option}
use Rattle.std.specs.Ordering.{nat_cmp, match_ordering}
use Rattle.std.specs.declared.cmp.Ordering.{Ordering}
use Rattle.std.specs.declared.cmp.Ordering.TheVariants.{Less, Equal, Greater}
use Rattle.std.specs.Str.{is_utf8, str_to_ascii_lowercase}
use Rattle.std.proofs.lemmas.Bool.{and_parts, eqb-true}
use Rattle.std.proofs.lemmas.List.{append-nil, drop_more}
use Rattle.smithy_http.specs.HeaderValues.{text_of}
use Rattle.smithy_schema.specs.Nodes.{Schema, Node, Table, node_at, at_place, key_of, value_of}
use Rattle.smithy_types.specs.Maps.{with_value, all_put}
use Rattle.smithy_types.proofs.MapLemmas.{lookup-pairs_of}
use Rattle.smithy_serde.specs.NormalBody.{map_value, entry_writes, own_label}
use Rattle.smithy_serde.specs.StoredValues.{no_label, label_at, value_in, HasNode, IsDefined}
use Rattle.smithy_serde.specs.Told.{appended, one_write}
use Rattle.smithy_serde.specs.Values as value
use Rattle.smithy_serde.specs.Values.{Label, Value, Writes, label_of}
use Rattle.smithy_serde.specs.declared.value.ShapeValue.{ShapeValue}
use Rattle.smithy_serde.proofs.WritesLemmas.{appended-no_writes, appended_assoc}
use Rattle.smithy_binding.specs.NormalForm.{unless_empty}
use Rattle.smithy_recovery.specs.views.KeptEntries.{is_again, last_entry, last_entries, map_seen, text_put, part_put, headers_put, ArePlaces, has_entry_nodes}
use Rattle.smithy_recovery.specs.views.KeptQueries.{shown_values, entries_in, has_key, value_under, new_put, AreValuesDefined}
use Rattle.smithy_recovery.specs.views.NameOrder.{text_seen, IsInOrder}
use Rattle.smithy_recovery.specs.declared.named_texts.NamedText.{NamedText}
use Rattle.smithy_recovery.specs.MapParts.{as_text, entry_behind, entries_behind, text_entries, prefix_part}
use Rattle.smithy_recovery.proofs.LastEntries.{with_text, last_in_order}

abbrev Entries : Type 0
Entries = List (List ℕ × Value)

abbrev Pairs : Type 0
Pairs = List (List ℕ × List ℕ)

-- all headers are put as the texts behind the prefix are
abbrev all_utf8 : Pairs → Bool
all_utf8 es = list_all (λ (e : List ℕ × List ℕ). is_utf8 e.1) es

put_behind : (prefix : List ℕ) (hs es : Pairs) → headers_put prefix hs es ≡ cond (all_utf8 (entries_behind prefix hs)) (Some (es ++ entries_behind prefix hs)) None
put_behind prefix [] es = ap Some (sym (append-nil es))
put_behind prefix (h ∷ hs) es = go (entry_behind prefix h) (put_behind prefix hs)
  where
    later : Pairs
    later = entries_behind prefix hs

    by : (e : List ℕ × List ℕ) (t : Bool) → ((es : Pairs) → headers_put prefix hs es ≡ cond (all_utf8 later) (Some (es ++ later)) None)
        → option_and_then (headers_put prefix hs) (cond t (Some (es ++ e ∷ [])) None) ≡ cond (t && all_utf8 later) (Some (es ++ e ∷ later)) None
    by e true rest = rest (es ++ e ∷ []) ∙ ap (λ ps. cond (all_utf8 later) (Some ps) None) (append_assoc es (e ∷ []) later)
    by e false rest = refl

    go : (o : Option (List ℕ × List ℕ)) → ((es : Pairs) → headers_put prefix hs es ≡ cond (all_utf8 later) (Some (es ++ later)) None)
        → option_and_then (headers_put prefix hs) (part_put o es) ≡ cond (all_utf8 (cons_option o later)) (Some (es ++ cons_option o later)) None
    go None rest = rest es
    go (Some e) rest = by e (is_utf8 e.1) rest

-- the part of entries, if there are any
abbrev pub part_of : Schema → Option Entries → Option (Option Value)
part_of m o = option_map (λ es. unless_empty (map_value (Some m) es)) o

-- the part of a prefix, by the texts that were put
abbrev pub texts_part : Schema → Option Pairs → Option (Option Value)
texts_part m o = option_map (λ ps. unless_empty (map_value (Some m) (text_entries ps))) o

pub prefix_put : (m : Schema) (prefix : List ℕ) (hs : Pairs) → texts_part m (headers_put (str_to_ascii_lowercase prefix) hs []) ≡ prefix_part m prefix hs
prefix_put m prefix hs =
    let low = str_to_ascii_lowercase prefix in
    ap (texts_part m) (put_behind low hs []) ∙ go (all_utf8 (entries_behind low hs)) (entries_behind low hs)
  where
    go : (t : Bool) (ps : Pairs) → texts_part m (cond t (Some ps) None) ≡ cond t (Some (unless_empty (map_value (Some m) (text_entries ps)))) None
    go true ps = refl
    go false ps = refl

-- no entries leave nothing, and some leave the map
pub part_none : (m : Schema) (o : Option Entries) → o ≡ Some [] → part_of m o ≡ Some None
part_none m o e = ap (part_of m) e

pub texts_none : (m : Schema) (o : Option Pairs) (ts : List NamedText) → o ≡ Some (map text_seen ts) → (length ts == 0) ≡ true → texts_part m o ≡ Some None
texts_none m o [] e none = ap (texts_part m) e
texts_none m o (t ∷ ts) e none = let zero : length (t ∷ ts) ≡ 0 = eqb-true (length (t ∷ ts)) 0 none in absurd (omega (arith, zero))

abbrev has_entries : Entries → Bool
has_entries [] = false
has_entries (e ∷ es) = true

put_some : (key : List ℕ) (v : Value) (es : Entries) → has_entries (with_value key v es) ≡ true
put_some key v [] = refl
put_some key v (e ∷ es) = go (slice_cmp nat_cmp key e.0)
  where
    go : (o : Ordering) → has_entries (match_ordering o ((key, v) ∷ e ∷ es) ((e.0, v) ∷ es) (e ∷ with_value key v es)) ≡ true
    go Less = refl
    go Equal = refl
    go Greater = refl

all_some : (es sorted : Entries) → has_entries sorted ≡ true → has_entries (all_put es sorted) ≡ true
all_some [] sorted some = some
all_some (e ∷ es) sorted some = all_some es (with_value e.0 e.1 sorted) (put_some e.0 e.1 sorted)

kept_some : (m : Schema) (es : Entries) → has_entries es ≡ true → Some (unless_empty (map_value (Some m) es)) ≡ Some (Some (map_value (Some m) es))
kept_some m [] some = let bad : false ≡ true = some in absurd (cc bad)
kept_some m (e ∷ es) some = refl

pub texts_some : (m : Schema) (o : Option Pairs) (ts us : List NamedText) → o ≡ Some (map text_seen ts) → (length ts == 0) ≡ false → IsInOrder (map text_seen ts) (map text_seen us) → texts_part m o ≡ Some (map_seen us m)
texts_some m o [] us e some ordered = absurd (cc some)
texts_some m o (t ∷ ts) us e some ordered =
    let all = map with_text (map text_seen ts) in
    let put : text_entries (map text_seen (t ∷ ts)) ≡ last_entries (map text_seen us) = sym (last_in_order (map text_seen (t ∷ ts)) (map text_seen us) ordered) in
    ap (texts_part m) e ∙ kept_some m (text_entries (map text_seen (t ∷ ts))) (all_some all ((t.name.now, as_text t.text.now) ∷ []) refl)
    ∙ ap (λ es. Some (Some (map_value (Some m) es))) put

-- an entry is put where it is a text
pub text_put_some : (key bytes text : List ℕ) (es : Pairs) → Some text ≡ text_of bytes → text_put (key, bytes) es ≡ Some (es ++ (key, text) ∷ [])
text_put_some key bytes text es e = go (is_utf8 bytes) e
  where
    go : (t : Bool) → Some text ≡ cond t (Some bytes) None → cond t (Some (es ++ (key, bytes) ∷ [])) None ≡ Some (es ++ (key, text) ∷ [])
    go true h = let same : text ≡ bytes = cc h in ap (λ x. Some (es ++ (key, x) ∷ [])) (sym same)
    go false h = absurd (cc h)

-- the last entry of a key is written, and others are not
pub again_adds : (k v : Label) (ws : Writes) (e : List ℕ × List ℕ) (es : Pairs) → is_again e.0 es ≡ true → ws ≡ appended ws (entry_writes k v (last_entry e es))
again_adds k v ws e es again = sym (appended-no_writes ws) ∙ ap (λ t. appended ws (entry_writes k v (cond t [] (with_text e ∷ [])))) (sym again)

pub last_adds : (k v : Label) (ws ns : Writes) (e : List ℕ × List ℕ) (es : Pairs) → is_again e.0 es ≡ false → ns ≡ appended ws (entry_writes k v (with_text e ∷ [])) → ns ≡ appended ws (entry_writes k v (last_entry e es))
last_adds k v ws ns e es last adds = adds ∙ ap (λ t. appended ws (entry_writes k v (cond t [] (with_text e ∷ [])))) (sym last)

-- so the writes of all entries go on
pub last_further : (k v : Label) (ws ns : Writes) (ts behind : List NamedText) (i : ℕ) (d : NamedText) → i < length ts → behind ≡ drop (i + 1) ts
    → ns ≡ appended ws (entry_writes k v (last_entry (text_seen (get_or ts i d)) (map text_seen behind)))
    → appended ns (entry_writes k v (last_entries (map text_seen (drop (i + 1) ts)))) ≡ appended ws (entry_writes k v (last_entries (map text_seen (drop i ts))))
last_further k v ws ns ts behind i d within rest adds =
    let e = text_seen (get_or ts i d) in
    let es = map text_seen (drop (i + 1) ts) in
    ap (λ w. appended w (entry_writes k v (last_entries es))) (adds ∙ ap (λ bs. appended ws (entry_writes k v (last_entry e (map text_seen bs)))) rest)
    ∙ go (is_again e.0 es) (last_entries es)
    ∙ ap (λ us. appended ws (entry_writes k v (last_entries (map text_seen us)))) (sym (drop_more ts i d within))
  where
    go : (t : Bool) (later : Entries)
        → appended (appended ws (entry_writes k v (cond t [] (with_text (text_seen (get_or ts i d)) ∷ [])))) (entry_writes k v later)
        ≡ appended ws (entry_writes k v (cond t [] (with_text (text_seen (get_or ts i d)) ∷ []) ++ later))
    go true later = ap (λ w. appended w (entry_writes k v later)) (appended-no_writes ws)
    go false later = appended_assoc ws (entry_writes k v (with_text (text_seen (get_or ts i d)) ∷ [])) (entry_writes k v later)

-- two writes are an entry
pub two_writes : (k v : Label) (old mid new : Writes) (a b : Value) (x : List ℕ) → a ≡ as_text x → mid ≡ appended old (one_write k a) → new ≡ appended mid (one_write v b)
    → new ≡ appended old (entry_writes k v ((x, b) ∷ []))
two_writes k v old mid new a b x is first second =
    second ∙ ap (λ w. appended w (one_write v b)) first ∙ appended_assoc old (one_write k a) (one_write v b) ∙ ap (λ y. appended old (appended (one_write k y) (one_write v b))) is

-- a cited node stands in the table of the node that cites it
pub placed_in : (m s : Schema) (o : Option ℕ) (i : ℕ) → Some s ≡ option_and_then (at_place m.table) o → at_place s.table i ≡ Some s → at_place m.table i ≡ Some s
placed_in m s None i e own = absurd (cc e)
placed_in m s (Some p) i e own = go (node_at m.table p) e
  where
    go : (n : Option Node) → Some s ≡ option_map (λ n. record { table = m.table; node = n }) n → at_place m.table i ≡ Some s
    go None h = absurd (cc h)
    go (Some n) h =
        let same : s ≡ record { table = m.table; node = n } = cc h in
        subst (λ t. at_place t i ≡ Some s) (ap (λ (x : Schema). x.table) same) own

pub cited_table : (m s : Schema) (o : Option ℕ) → Some s ≡ option_and_then (at_place m.table) o → s.table ≡ m.table
cited_table m s None e = absurd (cc e)
cited_table m s (Some p) e = go (node_at m.table p) e
  where
    go : (n : Option Node) → Some s ≡ option_map (λ n. record { table = m.table; node = n }) n → s.table ≡ m.table
    go None h = absurd (cc h)
    go (Some n) h = let same : s ≡ record { table = m.table; node = n } = cc h in ap (λ (x : Schema). x.table) same

-- An entry further among the writes.
pub entries_further : (k v : Label) (ws ns : Writes) (e : List ℕ × Value) (all rest : Entries) → all ≡ e ∷ rest → ns ≡ appended ws (entry_writes k v (e ∷ []))
    → appended ns (entry_writes k v rest) ≡ appended ws (entry_writes k v all)
entries_further k v ws ns e all rest steps more =
    ap (λ w. appended w (entry_writes k v rest)) more ∙ appended_assoc ws (entry_writes k v (e ∷ [])) (entry_writes k v rest) ∙ ap (λ es. appended ws (entry_writes k v es)) (sym steps)

pub entries_all : (k v : Label) (ws all : Writes) (rest : Entries) → rest ≡ [] → appended ws (entry_writes k v rest) ≡ all → ws ≡ all
entries_all k v ws all rest none same = sym (appended-no_writes ws) ∙ ap (λ es. appended ws (entry_writes k v es)) (sym none) ∙ same

-- at the places of a map's nodes stand its own labels
own_at : (t : Table) (i : ℕ) (o : Option Schema) → at_place t i ≡ o → label_at t i ≡ own_label o no_label
own_at t i o is = ap (λ p. unwrap_or (option_map label_of p) no_label) is ∙ go o
  where
    go : (o : Option Schema) → unwrap_or (option_map label_of o) no_label ≡ own_label o no_label
    go None = refl
    go (Some s) = refl

-- so entries that are written there are the map
pub own_map : (m : Schema) (i j : ℕ) (ws : Writes) (es : Entries) → ArePlaces m i j → ws ≡ entry_writes (label_at m.table i) (label_at m.table j) es → value.map ws ≡ map_value (Some m) es
own_map m i j ws es at is =
    ap value.map is ∙ (λ n. value.map (entry_writes (own_at m.table i (key_of m) at.key_node n) (own_at m.table j (value_of m) at.value_node n) es))

-- and they have nodes
pub key_there : (m : Schema) (i j : ℕ) → ArePlaces m i j → has_entry_nodes m ≡ true → HasNode m.table i
key_there m i j at nodes = ap is_some at.key_node ∙ (and_parts (is_some (key_of m)) (is_some (value_of m)) nodes).0

pub value_there : (m : Schema) (i j : ℕ) → ArePlaces m i j → has_entry_nodes m ≡ true → HasNode m.table j
value_there m i j at nodes = ap is_some at.value_node ∙ (and_parts (is_some (key_of m)) (is_some (value_of m)) nodes).1

-- Values that are kept by their keys.

-- an insertion into the map
value_inserted : (t : Table) (es : List (String Global × ShapeValue)) (k : String Global) (v : ShapeValue)
    → shown_values t (insert_entry string_cmp es k v) ≡ with_value (string_bytes k) (value_in t v) (shown_values t es)
value_inserted t [] k v = refl
value_inserted t (e ∷ es) k v = go (string_cmp k e.0) (value_inserted t es k v)
  where
    go : (o : Ordering) → shown_values t (insert_entry string_cmp es k v) ≡ with_value (string_bytes k) (value_in t v) (shown_values t es)
        → shown_values t (match_ordering o ((k, v) ∷ e ∷ es) ((e.0, v) ∷ es) (e ∷ insert_entry string_cmp es k v))
        ≡ match_ordering o ((string_bytes k, value_in t v) ∷ shown_values t (e ∷ es)) ((string_bytes e.0, value_in t v) ∷ shown_values t es)
        ((string_bytes e.0, value_in t e.1) ∷ with_value (string_bytes k) (value_in t v) (shown_values t es))
    go Less rest = refl
    go Equal rest = refl
    go Greater rest = ap (λ xs. (string_bytes e.0, value_in t e.1) ∷ xs) rest

defined_inserted : (t : Table) (es : List (String Global × ShapeValue)) (k : String Global) (v : ShapeValue) → IsDefined t v → AreValuesDefined t es → AreValuesDefined t (insert_entry string_cmp es k v)
defined_inserted t [] k v is all = (is, tt)
defined_inserted t (e ∷ es) k v is all = go (string_cmp k e.0) (defined_inserted t es k v is all.1)
  where
    go : (o : Ordering) → AreValuesDefined t (insert_entry string_cmp es k v) → AreValuesDefined t (match_ordering o ((k, v) ∷ e ∷ es) ((e.0, v) ∷ es) (e ∷ insert_entry string_cmp es k v))
    go Less rest = (is, all)
    go Equal rest = (is, all.1)
    go Greater rest = (all.0, rest)

-- what is found of a key
key_found : (t : Table) (key : List ℕ) (m : BTreeMap (String Global) ShapeValue) → is_some (get_by_text m key) ≡ has_key key (entries_in t m)
key_found t key m = go (get_by_text m key) ∙ ap is_some (lookup-pairs_of (value_in t) key m.entries)
  where
    go : (p : Option ShapeValue) → is_some p ≡ is_some (option_map (value_in t) p)
    go None = refl
    go (Some v) = refl

key_kept : (t : Table) (key : List ℕ) (k : String Global) (m : BTreeMap (String Global) ShapeValue) (o : Option ShapeValue) → string_bytes k ≡ key → get_by_text m (string_bytes k) ≡ o
    → has_key key (entries_in t m) ≡ is_some o
key_kept t key k m o is found = ap (λ x. has_key x (entries_in t m)) (sym is) ∙ sym (key_found t (string_bytes k) m) ∙ ap is_some found

put_where : (here : Option Schema) (ps : List (List ℕ)) (es : Entries) (key : List ℕ) (b : Bool) → has_key key es ≡ b → new_put here ps es key ≡ cond b (Some es) (option_map (λ v. with_value key v es) (value_under here ps))
put_where here ps es key b is = ap (λ x. cond x (Some es) (option_map (λ v. with_value key v es) (value_under here ps))) is

-- a key's entry: where there is one nothing is put, and else the value of the pieces is, if they have one
module _ (t : Table) (here : Option Schema) (ps : List (List ℕ)) (key : List ℕ) (k : String Global) (is : string_bytes k ≡ key) (old : BTreeMap (String Global) ShapeValue) where
  pub put_there : (new : List (String Global × ShapeValue)) → is_some (get_by_text old (string_bytes k)) ≡ true → new ≡ old.entries → new_put here ps (entries_in t old) key ≡ Some (shown_values t new)
  put_there new there same =
      put_where here ps (entries_in t old) key true (key_kept t key k old (get_by_text old (string_bytes k)) is refl ∙ there) ∙ ap (λ es. Some (shown_values t es)) (sym same)

  pub put_first : (new : List (String Global × ShapeValue)) (v : ShapeValue) → get_by_text old (string_bytes k) ≡ None → value_under here ps ≡ Some (value_in t v) → new ≡ insert_entry string_cmp old.entries k v
      → new_put here ps (entries_in t old) key ≡ Some (shown_values t new)
  put_first new v none value put =
      put_where here ps (entries_in t old) key false (key_kept t key k old None is none) ∙ ap (option_map (λ x. with_value key x (entries_in t old))) value
      ∙ ap (λ n. Some (with_value n (value_in t v) (entries_in t old))) (sym is) ∙ ap (λ es. Some es) (sym (ap (shown_values t) put ∙ value_inserted t old.entries k v))

  pub put_none : get_by_text old (string_bytes k) ≡ None → value_under here ps ≡ None → new_put here ps (entries_in t old) key ≡ None
  put_none none value =
      put_where here ps (entries_in t old) key false (key_kept t key k old None is none) ∙ ap (option_map (λ x. with_value key x (entries_in t old))) value

pub first_defined : (t : Table) (old : BTreeMap (String Global) ShapeValue) (new : List (String Global × ShapeValue)) (k : String Global) (v : ShapeValue) → new ≡ insert_entry string_cmp old.entries k v → IsDefined t v
    → AreValuesDefined t old.entries → AreValuesDefined t new
first_defined t old new k v put is all = subst (AreValuesDefined t) (sym put) (defined_inserted t old.entries k v is all)

-- the part of a map by the values that are kept of it
pub part_kept : (t : Table) (m : Schema) (o : Option Entries) (es : List (String Global × ShapeValue)) → o ≡ Some (shown_values t es) → (length es ≡ 0 → ⊥) → part_of m o ≡ Some (Some (map_value (Some m) (shown_values t es)))
part_kept t m o [] e some = absurd (some refl)
part_kept t m o (x ∷ es) e some = ap (part_of m) e

pub none_kept : (t : Table) (es : List (String Global × ShapeValue)) → length es ≡ 0 → shown_values t es ≡ []
none_kept t [] e = refl
none_kept t (x ∷ es) e = absurd (omega (arith, e))
