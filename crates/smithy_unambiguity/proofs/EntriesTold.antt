-- Entries of texts in the order of their keys are told by what stands under each key.
use Rattle.smithy_unambiguity.proofs.Common.{◌≡◌, refl, sym, ◌∙◌, ap, ℕ, Bool, true, false, not, cond, ◌&&◌, ◌||◌, List, [], ◌∷◌, ◌++◌, map, filter, flat_map, Option, Some, None, option_and_then, unwrap_or, is_none, if◌then◌else◌, option_map_or, option_or, str_to_ascii_lowercase, and_parts, not-true, append-nil, flat_map-map, same_text, is_one_of, are_distinct, unless, same_kind, one_kind, Schema, element_of, key_of, value_of, Label, Value, Writes, no_writes, write, Write, list_of, keys_of, text_of_key, fits, is_kind, own_label, in_key_order, settled, settled_elements, settled_entries, no_label, values_at, kind_or_none, map_entries, entries_of, entry_texts, pairs_with, entry_pairs, is_plain_string, is_plain_list, Fault, element_fault, part_fault, nested_fault, entry_fault, item_fault, key_fault, wrong_item_kind, ends_with_value, has_key_outside, own_entries, in_lower_case, has_pairs, is_empty_list, has_distinct_keys, text_form, entries_ordered, Pairs, looked, all_put, Ascends, or_none, look_ordered, known_by_names, last_ascending, cond_both}
use Rattle.std.specs.Cmp.Lexicographic.{same_text as same_from_test}
use Rattle.smithy_ids.specs.declared.shape_type.ShapeType.TheVariants as kind
use Rattle.smithy_serde.specs.Values as value
use Rattle.smithy_document.proofs.OrderedPairs.{last_of}
use Rattle.smithy_unambiguity.proofs.LastTexts.{last_value, lowered}
use Rattle.smithy_unambiguity.proofs.ByName.{under_name, entries_at}
use Rattle.smithy_unambiguity.proofs.Conforming.{no_first}
use Rattle.smithy_unambiguity.proofs.Headers.{map_pairs}
use Rattle.smithy_unambiguity.proofs.MemberTexts.{list_form}
use Rattle.smithy_unambiguity.proofs.PairLemmas.{valued, ordered_valued, filter_valued, filter_ascends, passing, looked_filter, names, unnamed, ascending_distinct, ordered_ascends}
use Rattle.smithy_unambiguity.proofs.Queries.{values_at-append}

pub passed : (t : Bool) (f : Fault) → unless t f ≡ None → t ≡ true
passed true f e = refl
passed false f e = absurd (cc e)

-- The normal form of an entry, from its texts.

-- texts, each written with this label
abbrev pub text_writes : Label → List (List ℕ) → Writes
text_writes l [] = no_writes
text_writes l (t ∷ ts) = write l (value.scalar (value.text t)) (text_writes l ts)

-- a list of texts at a node
abbrev pub own_list : Option Schema → List (List ℕ) → Value
own_list here ts = value.list (text_writes (own_label (option_and_then element_of here) no_label) ts)

-- one text where a String stands, else a list
abbrev pub own_value : Option Schema → List (List ℕ) → Value
own_value here [] = own_list here []
own_value here (t ∷ []) = if is_kind kind.String here then value.scalar (value.text t) else own_list here (t ∷ [])
own_value here (t ∷ u ∷ ts) = own_list here (t ∷ u ∷ ts)

abbrev pub as_text : List ℕ → Value
as_text t = value.scalar (value.text t)

pub string_kind : (here : Option Schema) → is_plain_string here ≡ true → kind_or_none here ≡ kind.String
string_kind None e = absurd (cc e)
string_kind (Some s) e = one_kind s.node.kind kind.String (and_parts (same_kind s.node.kind kind.String) (is_none s.node.traits.media_type) e).0

-- a String's entry is its text
pub text_part : (m : Schema) (here : Option Schema) (v : Value) → is_plain_string here ≡ true → part_fault m here v ≡ None → (t : List ℕ) × (v ≡ as_text t)
text_part m here v plain fault =
    let a = no_first (unless (fits (kind_or_none here) v) (wrong_item_kind m (kind_or_none here) v)) (nested_fault m here v) fault in
    text_form v (ap (λ k. fits k v) (sym (string_kind here plain)) ∙ passed (fits (kind_or_none here) v) (wrong_item_kind m (kind_or_none here) v) a.0)

settled_text : (m : Schema) (here : Option Schema) (v : Value) → is_plain_string here ≡ true → part_fault m here v ≡ None → settled here v ≡ as_text (text_of_key v)
settled_text m here v plain fault =
    let x = text_part m here v plain fault in
    ap (settled here) x.1 ∙ ap (λ u. as_text (text_of_key u)) (sym x.1)

elements_settled : (m : Schema) (e : Option Schema) (ws : Writes) → is_plain_string e ≡ true → element_fault m (kind_or_none e) ws ≡ None
    → settled_elements e ws ≡ text_writes (own_label e no_label) (map (λ (w : Write). text_of_key w.value) (list_of ws))
elements_settled m None ws plain fault = absurd (cc plain)
elements_settled m (Some s) no_writes plain fault = refl
elements_settled m (Some s) (write l v ws) plain fault =
    let a = no_first (unless (fits s.node.kind v) (wrong_item_kind m s.node.kind v)) (element_fault m s.node.kind ws) fault in
    let x = text_form v (ap (λ k. fits k v) (sym (string_kind (Some s) plain)) ∙ passed (fits s.node.kind v) (wrong_item_kind m s.node.kind v) a.0) in
    let here : settled (Some s) v ≡ as_text (text_of_key v) = ap (settled (Some s)) x.1 ∙ ap (λ u. as_text (text_of_key u)) (sym x.1) in
    let rest = elements_settled m (Some s) ws plain a.1 in
    λ i. write (own_label (Some s) no_label) (here i) (rest i)

-- where no String stands, a list of any texts is its own
pub own_value_list : (here : Option Schema) (ts : List (List ℕ)) → is_kind kind.String here ≡ false → own_value here ts ≡ own_list here ts
own_value_list here [] e = refl
own_value_list here (t ∷ []) e = rw e refl
own_value_list here (t ∷ u ∷ ts) e = refl

abbrev pub is_text_node : Option Schema → Bool
is_text_node here = is_plain_string here || is_plain_list here

settled_part : (m : Schema) (here : Option Schema) (v : Value) → is_text_node here ≡ true → part_fault m here v ≡ None → settled here v ≡ own_value here (entry_texts v)
settled_part m None v node fault = absurd (cc node)
settled_part m (Some s) v node fault = go (is_plain_string (Some s)) refl node
  where
    go : (t : Bool) → is_plain_string (Some s) ≡ t → (t || is_plain_list (Some s)) ≡ true → settled (Some s) v ≡ own_value (Some s) (entry_texts v)
    go true plain h =
        let x = text_part m (Some s) v plain fault in
        let string = (and_parts (same_kind s.node.kind kind.String) (is_none s.node.traits.media_type) plain).0 in
        ap (settled (Some s)) x.1 ∙ ap (λ b. if b then as_text x.0 else own_list (Some s) (x.0 ∷ [])) (sym string) ∙ ap (λ u. own_value (Some s) (entry_texts u)) (sym x.1)
    go false plain h =
        let a = and_parts (same_kind s.node.kind kind.List && is_none s.node.traits.media_type) (is_plain_string (element_of s)) h in
        let list = one_kind s.node.kind kind.List (and_parts (same_kind s.node.kind kind.List) (is_none s.node.traits.media_type) a.0).0 in
        let b = no_first (unless (fits s.node.kind v) (wrong_item_kind m s.node.kind v)) (nested_fault m (Some s) v) fault in
        let x = list_form v (ap (λ k. fits k v) (sym list) ∙ passed (fits s.node.kind v) (wrong_item_kind m s.node.kind v) b.0) in
        ap (settled (Some s)) x.1
        ∙ ap value.list (elements_settled m (element_of s) x.0 a.1 (ap (nested_fault m (Some s)) (sym x.1) ∙ b.1))
        ∙ sym (own_value_list (Some s) (map (λ (w : Write). text_of_key w.value) (list_of x.0)) (ap (λ k. same_kind k kind.String) list))
        ∙ ap (λ u. own_value (Some s) (entry_texts u)) (sym x.1)

-- The entries of a map, from their texts.

-- the texts of each entry under its key
abbrev pub key_texts : Value → Pairs (List (List ℕ))
key_texts v = valued entry_texts (map_entries v)

-- of a map that may be written
abbrev pub written_texts : Option Value → Pairs (List (List ℕ))
written_texts o = option_map_or key_texts o []

settled_entries_are : {X : Type 0} (m : Schema) (keys values : Option Schema) (own : X → Value) (g : Value → X) → ((v : Value) → part_fault m values v ≡ None → settled values v ≡ own (g v))
    → (ws : Writes) → entry_fault m keys values ws ≡ None → settled_entries values ws ≡ valued own (valued g (entries_of ws))
settled_entries_are m keys values own g each no_writes fault = refl
settled_entries_are m keys values own g each (write k key no_writes) fault = refl
settled_entries_are m keys values own g each (write k key (write l v ws)) fault =
    let a = no_first (part_fault m keys key) (entry_fault m values keys (write l v ws)) fault in
    let b = no_first (part_fault m values v) (entry_fault m keys values ws) a.1 in
    let here = each v b.0 in
    let rest = settled_entries_are m keys values own g each ws b.1 in
    λ i. (text_of_key key, here i) ∷ rest i

own_entries_are : {X : Type 0} (m : Schema) (v : Value) (own : X → Value) (g : Value → X) → ((u : Value) → part_fault m (value_of m) u ≡ None → settled (value_of m) u ≡ own (g u))
    → item_fault m v ≡ None → own_entries m v ≡ valued own (valued g (map_entries v))
own_entries_are m (value.map ws) own g each fault = settled_entries_are m (key_of m) (value_of m) own g each ws fault
own_entries_are m (value.scalar s) own g each fault = refl
own_entries_are m (value.list ws) own g each fault = refl
own_entries_are m (value.structure ws) own g each fault = refl

-- of texts or lists of texts
pub own_query_entries : (m : Schema) (v : Value) → is_text_node (value_of m) ≡ true → item_fault m v ≡ None → own_entries m v ≡ valued (own_value (value_of m)) (key_texts v)
own_query_entries m v node fault = own_entries_are m v (own_value (value_of m)) entry_texts (λ u e. settled_part m (value_of m) u node e) fault

-- of texts
pub own_text_entries : (m : Schema) (v : Value) → is_plain_string (value_of m) ≡ true → item_fault m v ≡ None → own_entries m v ≡ valued as_text (map_pairs v)
own_text_entries m v plain fault = own_entries_are m v as_text text_of_key (λ u e. settled_text m (value_of m) u plain e) fault

keys_of-entries : (ws : Writes) → ends_with_value ws ≡ true → keys_of ws ≡ names (entries_of ws)
keys_of-entries no_writes e = refl
keys_of-entries (write k key no_writes) e = absurd (cc e)
keys_of-entries (write k key (write l v ws)) e = ap (λ ks. text_of_key key ∷ ks) (keys_of-entries ws e)

-- a map that has each key once has each entry's once
pub entries_distinct : (m : Schema) (v : Value) → has_distinct_keys v ≡ true → key_fault m v ≡ None → are_distinct (names (map_entries v)) ≡ true
entries_distinct m (value.map ws) keys fault = ap are_distinct (sym (keys_of-entries ws (passed (ends_with_value ws) _ fault))) ∙ keys
entries_distinct m (value.scalar s) keys fault = refl
entries_distinct m (value.list ws) keys fault = refl
entries_distinct m (value.structure ws) keys fault = refl

-- Texts under their keys.

pub in_order : {X : Type 0} (g : X → Value) (ps : Pairs X) → in_key_order (valued g ps) ≡ valued g (all_put ps [])
in_order g ps = entries_ordered (valued g ps) ∙ ordered_valued g ps

-- each text of a key, under it
abbrev pub text_pairs : List ℕ × List (List ℕ) → List (List ℕ × List ℕ)
text_pairs e = pairs_with e.0 e.1

entry_pairs-texts : (es : List (List ℕ × Value)) → flat_map entry_pairs es ≡ flat_map text_pairs (valued entry_texts es)
entry_pairs-texts es = sym (flat_map-map text_pairs (λ (e : List ℕ × Value). (e.0, entry_texts e.1)) es)

-- what a query map gives at a name
pub query_map_gives : (others : List (List ℕ)) (name : List ℕ) (v : Value) → values_at name (flat_map entry_pairs (filter (has_key_outside others) (map_entries v))) ≡ cond (is_one_of name others) [] (values_at name (flat_map text_pairs (key_texts v)))
query_map_gives others name v = entries_at name others (map_entries v) ∙ ap (λ ps. cond (is_one_of name others) [] (values_at name ps)) (entry_pairs-texts (map_entries v))

-- where each key stands once, its texts are those of its last entry
pub values_of_texts : (name : List ℕ) (es : Pairs (List (List ℕ))) → are_distinct (names es) ≡ true → values_at name (flat_map text_pairs es) ≡ unwrap_or (last_of name es) []
values_of_texts name [] e = refl
values_of_texts name (p ∷ es) e =
    let parts = and_parts (not (is_one_of p.0 (names es))) (are_distinct (names es)) e in
    values_at-append name (text_pairs p) (flat_map text_pairs es)
    ∙ go (same_text p.0 name) refl (not-true (is_one_of p.0 (names es)) parts.0) (values_of_texts name es parts.1)
  where
    go : (t : Bool) → same_text p.0 name ≡ t → is_one_of p.0 (names es) ≡ false → values_at name (flat_map text_pairs es) ≡ unwrap_or (last_of name es) []
        → values_at name (text_pairs p) ++ values_at name (flat_map text_pairs es) ≡ unwrap_or (option_or (last_of name es) (cond (same_text p.0 name) (Some p.1) None)) []
    go true is alone rest =
        let none : last_of name es ≡ None = unnamed name es (ap (λ n. is_one_of n (names es)) (sym (same_from_test p.0 name (sym is))) ∙ alone) in
        (λ i. under_name name p.0 true p.1 is i ++ (rest ∙ ap (λ o. unwrap_or o []) none) i) ∙ append-nil p.1
        ∙ sym (λ i. unwrap_or (option_or (none i) (cond (is i) (Some p.1) None)) [])
    go false is alone rest =
        ap (λ vs. vs ++ values_at name (flat_map text_pairs es)) (under_name name p.0 false p.1 is) ∙ rest
        ∙ ap (λ o. unwrap_or o []) (sym (or_none (last_of name es)) ∙ ap (λ t. option_or (last_of name es) (cond t (Some p.1) None)) (sym is))

abbrev pub has_none : List (List ℕ) → Bool
has_none [] = true
has_none (t ∷ ts) = false

-- the entry has texts, beside query members of these names
abbrev pub has_texts : List (List ℕ) → List ℕ × List (List ℕ) → Bool
has_texts others e = not (is_one_of e.0 others) && not (has_none e.1)

-- such entries in the order of their keys
abbrev pub query_texts : List (List ℕ) → Pairs (List (List ℕ)) → Pairs (List (List ℕ))
query_texts others es = filter (has_texts others) (all_put es [])

own_value_empty : (here : Option Schema) (ts : List (List ℕ)) → is_empty_list (own_value here ts) ≡ has_none ts
own_value_empty here [] = refl
own_value_empty here (t ∷ []) = cond_both (is_kind kind.String here) (as_text t) (own_list here (t ∷ [])) (λ v. is_empty_list v ≡ false) (λ e. refl) (λ e. refl)
own_value_empty here (t ∷ u ∷ ts) = refl

pub query_entries : (here : Option Schema) (others : List (List ℕ)) (es : Pairs (List (List ℕ))) → filter (has_pairs others) (in_key_order (valued (own_value here) es)) ≡ valued (own_value here) (query_texts others es)
query_entries here others es =
    ap (filter (has_pairs others)) (in_order (own_value here) es)
    ∙ filter_valued (own_value here) (has_pairs others) (has_texts others) (λ e. ap (λ t. not (is_one_of e.0 others) && not t) (own_value_empty here e.1)) (all_put es [])

pub query_texts_ascend : (others : List (List ℕ)) (es : Pairs (List (List ℕ))) → Ascends (query_texts others es)
query_texts_ascend others es = filter_ascends (has_texts others) (all_put es []) (ordered_ascends es)

abbrev pub some_texts : List (List ℕ) → Option (List (List ℕ))
some_texts [] = None
some_texts (t ∷ ts) = Some (t ∷ ts)

pub query_texts_at : (others : List (List ℕ)) (name : List ℕ) (es : Pairs (List (List ℕ))) → are_distinct (names es) ≡ true
    → looked name (query_texts others es) ≡ cond (is_one_of name others) None (some_texts (values_at name (flat_map text_pairs es)))
query_texts_at others name es distinct =
    looked_filter (has_texts others) name (all_put es []) (ordered_ascends es) ∙ ap (passing (has_texts others) name) (look_ordered name es)
    ∙ by (is_one_of name others) (last_of name es) refl
    ∙ ap (λ ts. cond (is_one_of name others) None (some_texts ts)) (sym (values_of_texts name es distinct))
  where
    by : (t : Bool) (o : Option (List (List ℕ))) → is_one_of name others ≡ t → passing (has_texts others) name o ≡ cond (is_one_of name others) None (some_texts (unwrap_or o []))
    by true None e = rw e refl
    by false None e = rw e refl
    by true (Some ts) e = rw e refl
    by false (Some []) e = rw e refl
    by false (Some (t ∷ ts)) e = rw e refl

pub query_texts_told : (others : List (List ℕ)) (es fs : Pairs (List (List ℕ))) → are_distinct (names es) ≡ true → are_distinct (names fs) ≡ true
    → ((key : List ℕ) → is_one_of key others ≡ false → values_at key (flat_map text_pairs es) ≡ values_at key (flat_map text_pairs fs)) → query_texts others es ≡ query_texts others fs
query_texts_told others es fs one two same =
    known_by_names (query_texts others es) (query_texts others fs) (query_texts_ascend others es) (query_texts_ascend others fs)
    (λ name. query_texts_at others name es one ∙ by name (is_one_of name others) refl ∙ sym (query_texts_at others name fs two))
  where
    by : (name : List ℕ) (t : Bool) → is_one_of name others ≡ t
        → cond (is_one_of name others) None (some_texts (values_at name (flat_map text_pairs es))) ≡ cond (is_one_of name others) None (some_texts (values_at name (flat_map text_pairs fs)))
    by name true e = rw e refl
    by name false e = rw e (ap some_texts (same name e))

-- so they give the same texts at each name
pub query_texts_kept : (others : List (List ℕ)) (name : List ℕ) (es : Pairs (List (List ℕ))) → are_distinct (names es) ≡ true
    → cond (is_one_of name others) [] (values_at name (flat_map text_pairs (query_texts others es))) ≡ cond (is_one_of name others) [] (values_at name (flat_map text_pairs es))
query_texts_kept others name es distinct =
    ap (cond (is_one_of name others) [])
    (values_of_texts name (query_texts others es) (ascending_distinct (query_texts others es) (query_texts_ascend others es))
    ∙ ap (λ o. unwrap_or o []) (last_ascending name (query_texts others es) (query_texts_ascend others es) ∙ query_texts_at others name es distinct))
    ∙ go (is_one_of name others) (values_at name (flat_map text_pairs es))
  where
    go : (t : Bool) (ts : List (List ℕ)) → cond t [] (unwrap_or (cond t None (some_texts ts)) []) ≡ cond t [] ts
    go true ts = refl
    go false [] = refl
    go false (t ∷ ts) = refl

-- Texts, one under each name.

pub last_of-texts : (name : List ℕ) (ps : Pairs (List ℕ)) → last_of name ps ≡ last_value (values_at name ps)
last_of-texts name [] = refl
last_of-texts name (p ∷ ps) = go (same_text p.0 name) refl (last_of-texts name ps)
  where
    go : (t : Bool) → same_text p.0 name ≡ t → last_of name ps ≡ last_value (values_at name ps) → last_of name (p ∷ ps) ≡ last_value (values_at name (p ∷ ps))
    go true e rest = rw (e, rest) refl
    go false e rest = rw (e, rest) (or_none (last_value (values_at name ps)))

-- the same last texts under a name
abbrev pub SameLast : Pairs (List ℕ) → Pairs (List ℕ) → List ℕ → Type 0
SameLast ps qs name = last_value (values_at name ps) ≡ last_value (values_at name qs)

pub ordered_told : (ps qs : Pairs (List ℕ)) → ((name : List ℕ) → SameLast ps qs name) → all_put ps [] ≡ all_put qs []
ordered_told ps qs same =
    known_by_names (all_put ps []) (all_put qs []) (ordered_ascends ps) (ordered_ascends qs)
    (λ name. look_ordered name ps ∙ last_of-texts name ps ∙ same name ∙ sym (last_of-texts name qs) ∙ sym (look_ordered name qs))

pub lower_entries : (ps : Pairs (List ℕ)) → in_lower_case (valued as_text ps) ≡ valued as_text (lowered ps)
lower_entries [] = refl
lower_entries (p ∷ ps) = ap (λ es. (str_to_ascii_lowercase p.0, as_text p.1) ∷ es) (lower_entries ps)
