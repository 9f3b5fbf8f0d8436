-- The headers behind a prefix are read as the map that its member was written.
use Rattle.std.proofs.Common.{◌≡◌, refl, sym, ◌∙◌, ap, subst, cond, ℕ, Bool, true, false, List, [], ◌∷◌, ◌++◌, map, filter, Option, Some, None, option_map, option_to_list}
use Rattle.std.specs.List.{AllByRecursion, cons_option}
use Rattle.std.specs.Option.{option_or}
use Rattle.std.specs.Cmp.Lexicographic.{same_text as same_from_test}
use Rattle.std.specs.Str.{is_utf8, str_to_ascii_lowercase}
use Rattle.smithy_http.specs.Facts.{values_at}
use Rattle.smithy_http.specs.Requests.{Request}
use Rattle.smithy_types.specs.Texts.{same_text, is_one_of}
use Rattle.smithy_schema.specs.Nodes.{Schema, member_at, to_prefix, binding_of}
use Rattle.smithy_serde.specs.NormalBody.{map_value, in_key_order}
use Rattle.smithy_serde.specs.Values.{Value, Write, text_of_key}
use Rattle.smithy_strings.proofs.UnescapeLaws.{same_self}
use Rattle.smithy_binding.specs.Bindings.{headers, query_names, map_entries}
use Rattle.smithy_binding.specs.Bodies.{body}
use Rattle.smithy_binding.specs.Faults.{is_placed_at}
use Rattle.smithy_binding.specs.NormalForm.{member_view, unless_empty}
use Rattle.smithy_binding.specs.Placing.{Protocol, OmitFlags}
use Rattle.smithy_binding.specs.Typed.{default_names}
use Rattle.smithy_unambiguity.proofs.ByMember.{first_value}
use Rattle.smithy_unambiguity.proofs.Defaults.{all_headers_at, leaves-elsewhere}
use Rattle.smithy_unambiguity.proofs.EntriesTold.{as_text, in_order, ordered_told}
use Rattle.smithy_unambiguity.proofs.HeaderNames.{headers_apart}
use Rattle.smithy_unambiguity.proofs.LastTexts.{last_value, last_at, lowered, values_all, last_of_list}
use Rattle.smithy_unambiguity.proofs.Lists.{test_from_all}
use Rattle.smithy_unambiguity.proofs.MapsTold.{text_map_at, prefix_part as prefix_view, written_pairs, headers_behind, no_default_behind}
use Rattle.smithy_unambiguity.proofs.PairLemmas.{valued}
use Rattle.smithy_unambiguity.proofs.Placed.{IsPlacedValue, placed_value, bound_view_of}
use Rattle.smithy_unambiguity.proofs.TextsBytes.{text_utf8, map_in_range, IsEntryInRange}
use Rattle.smithy_recovery.specs.PathParts.{behind_front}
use Rattle.smithy_recovery.specs.MapParts.{entry_behind, entries_behind, prefix_part}
use Rattle.smithy_recovery.proofs.Seen.{IsSeen}
use Rattle.smithy_unambiguity.proofs.Positions.{sound_input}
use Rattle.smithy_recovery.proofs.Cutting.{behind_front-append, front_back}

-- The values of an entry are those of the header with its name.
values_behind : (prefix : List ℕ) (hs : List (List ℕ × List ℕ)) (k : List ℕ) → values_at k (entries_behind prefix hs) ≡ cond (is_one_of (prefix ++ k) default_names) [] (values_at (prefix ++ k) hs)
values_behind prefix [] k = go (is_one_of (prefix ++ k) default_names)
  where
    go : (t : Bool) → ◌≡◌ {A = List (List ℕ)} [] (cond t [] [])
    go true = refl
    go false = refl
values_behind prefix (p ∷ ps) k = by (same_text p.0 (prefix ++ k)) refl (values_behind prefix ps k)
  where
    rest : List (List ℕ)
    rest = values_at k (entries_behind prefix ps)

    later : List (List ℕ)
    later = values_at (prefix ++ k) ps

    default : Bool
    default = is_one_of (prefix ++ k) default_names

    -- the entry of another name is under another key
    other : (o : Option (List ℕ)) → behind_front prefix p.0 ≡ o → same_text p.0 (prefix ++ k) ≡ false → (d : Bool) → values_at k (cons_option (cond d None (option_map (λ key. (key, p.1)) o)) (entries_behind prefix ps)) ≡ rest
    other o is unlike true = refl
    other None is unlike false = refl
    other (Some key) is unlike false = ap (λ t. map (λ (q : List ℕ × List ℕ). q.1) (cond t ((key, p.1) ∷ filter (λ q. same_text q.0 k) (entries_behind prefix ps)) (filter (λ q. same_text q.0 k) (entries_behind prefix ps)))) (no (same_text key k) refl)
      where
        no : (t : Bool) → same_text key k ≡ t → t ≡ false
        no false e = refl
        no true e =
            let whole : p.0 ≡ prefix ++ k = front_back prefix p.0 key is ∙ ap (λ x. prefix ++ x) (same_from_test key k (sym e)) in
            let q : true ≡ false = sym (same_self (prefix ++ k)) ∙ ap (λ n. same_text n (prefix ++ k)) (sym whole) ∙ unlike in
            absurd (cc q)

    by : (t : Bool) → same_text p.0 (prefix ++ k) ≡ t → rest ≡ cond default [] later → values_at k (cons_option (entry_behind prefix p) (entries_behind prefix ps)) ≡ cond default [] (map (λ (q : List ℕ × List ℕ). q.1) (cond t (p ∷ filter (λ q. same_text q.0 (prefix ++ k)) ps) (filter (λ q. same_text q.0 (prefix ++ k)) ps)))
    by false e same = other (behind_front prefix p.0) refl e (is_one_of p.0 default_names) ∙ same
    by true e same =
        let name = same_from_test p.0 (prefix ++ k) (sym e) in
        ap (λ n. values_at k (cons_option (cond (is_one_of n default_names) None (option_map (λ key. (key, p.1)) (behind_front prefix n))) (entries_behind prefix ps))) name
        ∙ ap (λ o. values_at k (cons_option (cond default None (option_map (λ key. (key, p.1)) o)) (entries_behind prefix ps))) (behind_front-append prefix k)
        ∙ here default same
      where
        here : (d : Bool) → rest ≡ cond d [] later → values_at k (cons_option (cond d None (Some (k, p.1))) (entries_behind prefix ps)) ≡ cond d [] (p.1 ∷ later)
        here true h = h
        here false h = ap (λ t. map (λ (q : List ℕ × List ℕ). q.1) (cond t ((k, p.1) ∷ filter (λ q. same_text q.0 k) (entries_behind prefix ps)) (filter (λ q. same_text q.0 k) (entries_behind prefix ps)))) (same_self k) ∙ ap (λ vs. p.1 ∷ vs) h

-- what holds of each value under each name holds of each pair's value
all_by_values : (P : List ℕ → Type 0) (ps : List (List ℕ × List ℕ)) → ((k : List ℕ) → AllByRecursion P (values_at k ps)) → AllByRecursion (λ p. P p.1) ps
all_by_values P [] all = tt
all_by_values P (p ∷ ps) all = (here (all p.0), all_by_values P ps (λ k. tail k (same_text p.0 k) (all k)))
  where
    here : AllByRecursion P (values_at p.0 (p ∷ ps)) → P p.1
    here h = (subst (λ t. AllByRecursion P (map (λ (q : List ℕ × List ℕ). q.1) (cond t (p ∷ filter (λ q. same_text q.0 p.0) ps) (filter (λ q. same_text q.0 p.0) ps)))) (same_self p.0) h).0

    tail : (k : List ℕ) (t : Bool) → AllByRecursion P (map (λ (q : List ℕ × List ℕ). q.1) (cond t (p ∷ filter (λ q. same_text q.0 k) ps) (filter (λ q. same_text q.0 k) ps))) → AllByRecursion P (values_at k ps)
    tail k true h = h.1
    tail k false h = h

last_all : (P : List ℕ → Type 0) (vs : List (List ℕ)) → AllByRecursion P vs → AllByRecursion P (option_to_list (last_value vs))
last_all P [] all = tt
last_all P (v ∷ vs) all = go (last_value vs) (last_all P vs all.1)
  where
    go : (o : Option (List ℕ)) → AllByRecursion P (option_to_list o) → AllByRecursion P (option_to_list (option_or o (Some v)))
    go None rest = (all.0, tt)
    go (Some x) rest = rest

entries_utf8 : (es : List (List ℕ × Value)) → AllByRecursion IsEntryInRange es → AllByRecursion (λ p. is_utf8 p.1 ≡ true) (lowered (valued text_of_key es))
entries_utf8 [] all = tt
entries_utf8 (e ∷ es) all = (text_utf8 e.1 all.0.1, entries_utf8 es all.1)

pub prefix_back : (protocol : Protocol) (schema : Schema) (endpoint : List ℕ) (omit : OmitFlags) (ws : List Write) (q : Request) → IsSeen protocol schema endpoint omit ws q → (i : ℕ) (m : Schema) (prefix : List ℕ)
    → member_at schema i ≡ Some m → binding_of m ≡ to_prefix prefix → prefix_part m prefix q.headers ≡ Some (member_view schema ws i m)
prefix_back protocol schema endpoint omit ws q is i m prefix at begins =
    ap (λ t. cond t (Some (unless_empty (map_value (Some m) (in_key_order (valued as_text entries))))) None) (test_from_all (λ (e : List ℕ × List ℕ). is_utf8 e.1) entries utf8)
    ∙ ap (λ es. Some (unless_empty (map_value (Some m) es))) (in_order as_text entries)
    ∙ ap (λ ps. Some (unless_empty (map_value (Some m) (valued as_text ps)))) (ordered_told entries (lowered (written_pairs (first_value schema ws i))) (λ k. ap last_value (told k) ∙ last_of_list _))
    ∙ ap Some (sym (prefix_view m (query_names schema) prefix (first_value schema ws i) (text_map_at schema is.checked i m prefix at begins) placed))
    ∙ ap Some (sym (bound_view_of schema ws i m (to_prefix prefix) at begins refl))
  where
    low : List ℕ
    low = str_to_ascii_lowercase prefix

    entries : List (List ℕ × List ℕ)
    entries = entries_behind low q.headers

    placed : (u : Value) → first_value schema ws i ≡ Some u → IsPlacedValue m u
    placed u e = placed_value schema ws i m u is.writes at (ap is_placed_at begins) e

    pairs_there : List (List ℕ × List ℕ)
    pairs_there = lowered (written_pairs (first_value schema ws i))

    elsewhere : (name : List ℕ) → is_one_of name default_names ≡ false → values_at name q.headers ≡ values_at name (headers schema ws)
    elsewhere name outside = sym (is.headers name) ∙ all_headers_at protocol (body protocol.text_of schema ws) omit (headers schema ws) name (leaves-elsewhere (body protocol.text_of schema ws) omit (headers schema ws) name outside)

    told : (k : List ℕ) → values_at k entries ≡ last_at k pairs_there
    told k = values_behind low q.headers k ∙ go (is_one_of (low ++ k) default_names) refl
      where
        go : (d : Bool) → is_one_of (low ++ k) default_names ≡ d → cond d [] (values_at (low ++ k) q.headers) ≡ last_at k pairs_there
        go true ed = sym (ap (λ vs. option_to_list (last_value vs)) (no_default_behind protocol schema endpoint omit ws i m prefix is.typed at begins k ed))
        go false ed = elsewhere (low ++ k) ed ∙ headers_behind schema ws i m prefix (headers_apart schema (sound_input schema is.checked)) at begins k

    there_utf8 : AllByRecursion (λ p. is_utf8 p.1 ≡ true) pairs_there
    there_utf8 = go (first_value schema ws i) placed
      where
        go : (o : Option Value) → ((u : Value) → o ≡ Some u → IsPlacedValue m u) → AllByRecursion (λ p. is_utf8 p.1 ≡ true) (lowered (written_pairs o))
        go None fit = tt
        go (Some u) fit = entries_utf8 (map_entries u) (map_in_range u (fit u refl).value.in_range)

    utf8 : AllByRecursion (λ e. is_utf8 e.1 ≡ true) entries
    utf8 = all_by_values (λ t. is_utf8 t ≡ true) entries (λ k. subst (AllByRecursion (λ t. is_utf8 t ≡ true)) (sym (told k)) (last_all (λ t. is_utf8 t ≡ true) (values_at k pairs_there) (values_all (λ t. is_utf8 t ≡ true) k pairs_there there_utf8)))
