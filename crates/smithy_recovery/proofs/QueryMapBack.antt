-- The query beside its members is read as the map that its member was written.
use Rattle.std.proofs.Common.{◌≡◌, ◌≢◌, refl, sym, ◌∙◌, ap, subst, cond, ℕ, zero, suc, Bool, true, false, ◌&&◌, ◌||◌, List, [], ◌∷◌, ◌++◌, length, drop, map, flat_map, Option, Some, None, option_map, option_and_then, unwrap_or, is_none, IsUtf8, if◌then◌else◌}
use Rattle.std.proofs.Math.Seq.{drop-append_seam}
use Rattle.std.specs.List.{AllByRecursion, cons_option}
use Rattle.std.specs.Option.{option_or}
use Rattle.std.specs.Cmp.Lexicographic.{same_text as same_from_test}
use Rattle.std.specs.Str.{is_utf8}
use Rattle.std.proofs.lemmas.Bool.{and_parts}
use Rattle.std.proofs.lemmas.List.{map-append}
use Rattle.std.proofs.lemmas.Str.{IsUtf8-from_is_utf8, is_utf8-from_IsUtf8}
use Rattle.smithy_types.specs.Results.{each}
use Rattle.smithy_types.specs.Texts.{same_text, is_one_of, are_distinct}
use Rattle.smithy_ids.specs.declared.shape_type.ShapeType.TheVariants as kind
use Rattle.smithy_ids.specs.Kinds.{same_kind}
use Rattle.smithy_ids.proofs.KindLemmas.{one_kind}
use Rattle.smithy_http.specs.Facts.{values_at, query_pieces, named_piece}
use Rattle.smithy_http.specs.Requests.{Request}
use Rattle.smithy_schema.specs.Nodes.{Schema, element_of, key_of, value_of, member_at, to_query_map, binding_of}
use Rattle.smithy_schema.specs.Templates.{Template, pieces}
use Rattle.smithy_serde.specs.NormalBody.{in_key_order, map_value, own_label}
use Rattle.smithy_serde.specs.Shaped.{is_kind}
use Rattle.smithy_serde.specs.StoredValues.{no_label}
use Rattle.smithy_serde.specs.Values as value
use Rattle.smithy_serde.specs.Values.{Value, Writes, no_writes, write, Write, writes_of}
use Rattle.smithy_serde.specs.ValueRead.{write_by}
use Rattle.smithy_strings.specs.Escapes.{escape, unescaped, AreBytes}
use Rattle.smithy_strings.proofs.Bytes.{AreBytes-from_utf8}
use Rattle.smithy_strings.proofs.UnescapeLaws.{same_self, unescaped-escape, unescape_is_exact}
use Rattle.smithy_binding.specs.Bindings.{pairs, labels, query_names, entries_of, entry_texts}
use Rattle.smithy_binding.specs.Checked.{is_plain_string, is_plain_list, is_query_map}
use Rattle.smithy_binding.specs.Faults.{entry_fault, item_fault, part_fault, is_placed_at}
use Rattle.smithy_binding.specs.NormalForm.{member_view, unless_empty}
use Rattle.smithy_binding.specs.Placing.{Protocol, OmitFlags, pair_text, template_of}
use Rattle.smithy_document.proofs.OrderedPairs.{Pairs, last_of, all_put, look_ordered, known_by_names}
use Rattle.smithy_unambiguity.proofs.ByMember.{first_value}
use Rattle.smithy_unambiguity.proofs.ByName.{nothing_at}
use Rattle.smithy_unambiguity.proofs.Conforming.{no_first}
use Rattle.smithy_unambiguity.proofs.EntriesTold.{own_list, own_value, own_value_list, is_text_node, text_part, text_writes, text_pairs, key_texts, written_texts, in_order, some_texts, values_of_texts, query_texts as ordered_texts, query_texts_ascend, query_texts_at}
use Rattle.smithy_unambiguity.proofs.HeadersTold.{clear_template}
use Rattle.smithy_unambiguity.proofs.Lists.{all_apply}
use Rattle.smithy_unambiguity.proofs.MapsTold.{query_map_at, query_map_part as query_map_view, distinct_keys}
use Rattle.smithy_unambiguity.proofs.PairLemmas.{valued, names as keys, ordered_ascends}
use Rattle.smithy_unambiguity.proofs.Placed.{IsPlacedValue, placed_value, bound_view_of}
use Rattle.smithy_unambiguity.proofs.Queries.{name_of_pair, pieces_of_pairs, pieces_of_query, values_at-append}
use Rattle.smithy_unambiguity.proofs.QueryNames.{pairs_of_map, unnamed_outside}
use Rattle.smithy_unambiguity.proofs.TextsBytes.{AreUtf8, IsTextPair, pairs_are_utf8}
use Rattle.smithy_recovery.specs.HeaderParts.{list_value}
use Rattle.smithy_recovery.specs.MapParts.{as_text, one_text, text_list, entry_value, entry_named, query_entry, query_entries, query_map_part}
use Rattle.smithy_recovery.specs.QueryParts.{piece_text, own_query, pieces_named}
use Rattle.smithy_recovery.proofs.QueryBack.{pairs_back, filled_pieces}
use Rattle.smithy_recovery.proofs.Seen.{IsSeen}

-- The last pair of a name.

last_has : {X : Type 0} (Q : List ℕ × X → Type 0) (name : List ℕ) (es : Pairs X) (x : X) → AllByRecursion Q es → last_of name es ≡ Some x → Q (name, x)
last_has Q name [] x all e = absurd (cc e)
last_has {X = X} Q name (p ∷ es) x all e = go (last_of name es) (same_text p.0 name) refl (last_has Q name es x all.1) e
  where
    go : (o : Option X) (t : Bool) → same_text p.0 name ≡ t → (o ≡ Some x → Q (name, x)) → option_or o (cond t (Some p.1) None) ≡ Some x → Q (name, x)
    go (Some y) t is later h = later h
    go None true is later h = let same : p.1 ≡ x = cc h in subst Q (λ i. (same_from_test p.0 name (sym is) i, same i)) all.0
    go None false is later h = absurd (cc h)

-- What stands under a name is of UTF-8 texts alone.

named_utf8 : (name : List ℕ) (ps : List (List ℕ × List ℕ)) → AllByRecursion IsTextPair ps → values_at name ps ≢ [] → is_utf8 name ≡ true
named_utf8 name [] all some = absurd (some refl)
named_utf8 name (p ∷ ps) all some = go (same_text p.0 name) refl (named_utf8 name ps all.1) some
  where
    go : (t : Bool) → same_text p.0 name ≡ t → (values_at name ps ≢ [] → is_utf8 name ≡ true) → values_at name (p ∷ ps) ≢ [] → is_utf8 name ≡ true
    go true is later h = ap is_utf8 (sym (same_from_test p.0 name (sym is))) ∙ all.0.0
    go false is later h = later (λ none. h (rw is none))

texts_utf8 : (name : List ℕ) (ps : List (List ℕ × List ℕ)) → AllByRecursion IsTextPair ps → AreUtf8 (values_at name ps)
texts_utf8 name [] all = tt
texts_utf8 name (p ∷ ps) all = go (same_text p.0 name) refl (texts_utf8 name ps all.1)
  where
    go : (t : Bool) → same_text p.0 name ≡ t → AreUtf8 (values_at name ps) → AreUtf8 (values_at name (p ∷ ps))
    go true is rest = rw is (all.0.1, rest)
    go false is rest = rw is rest

name_bytes : (ps : List (List ℕ × List ℕ)) → AllByRecursion IsTextPair ps → AllByRecursion (λ p. AreBytes p.0) ps
name_bytes ps all = all_apply IsTextPair (λ p. AreBytes p.0) ps (λ p utf8. AreBytes-from_utf8 p.0 utf8.0) all

-- The texts of an entry.

abbrev IsSingle : List (List ℕ) → Type 0
IsSingle ts = (t : List ℕ) × (ts ≡ t ∷ [])

list_of_texts : (e : Schema) (ts : List (List ℕ)) → writes_of (map (write_by e) (map as_text ts)) ≡ text_writes (own_label (Some e) no_label) ts
list_of_texts e [] = refl
list_of_texts e (t ∷ ts) = ap (write (own_label (Some e) no_label) (as_text t)) (list_of_texts e ts)

-- they are read as the value that they are of
entry_back : (here : Option Schema) (ts : List (List ℕ)) → is_text_node here ≡ true → (is_plain_string here ≡ true → IsSingle ts) → entry_value here ts ≡ Some (own_value here ts)
entry_back None ts node single = absurd (cc node)
entry_back (Some s) ts node single = go (is_plain_string (Some s)) refl node
  where
    listed : (o : Option Schema) → element_of s ≡ o → is_plain_string o ≡ true → text_list (Some s) ts ≡ Some (own_list (Some s) ts)
    listed None is plain = absurd (cc plain)
    listed (Some e) is plain =
        ap (λ o. option_map (λ e. list_value e (map as_text ts)) o) is ∙ ap (λ ws. Some (value.list ws)) (list_of_texts e ts) ∙ ap (λ o. Some (value.list (text_writes (own_label o no_label) ts))) (sym is)

    go : (t : Bool) → is_plain_string (Some s) ≡ t → (t || is_plain_list (Some s)) ≡ true → entry_value (Some s) ts ≡ Some (own_value (Some s) ts)
    go true plain h =
        let string = (and_parts (same_kind s.node.kind kind.String) (is_none s.node.traits.media_type) plain).0 in
        let x = single plain in
        ap (λ b. if b then one_text ts else text_list (Some s) ts) string ∙ ap one_text x.1
        ∙ ap (λ b. Some (if b then as_text x.0 else own_list (Some s) (x.0 ∷ []))) (sym string) ∙ ap (λ us. Some (own_value (Some s) us)) (sym x.1)
    go false plain h =
        let a = and_parts (same_kind s.node.kind kind.List && is_none s.node.traits.media_type) (is_plain_string (element_of s)) h in
        let is_list = one_kind s.node.kind kind.List (and_parts (same_kind s.node.kind kind.List) (is_none s.node.traits.media_type) a.0).0 in
        let other : is_kind kind.String (Some s) ≡ false = ap (λ k. same_kind k kind.String) is_list in
        ap (λ b. if b then one_text ts else text_list (Some s) ts) other ∙ listed (element_of s) refl a.1 ∙ ap Some (sym (own_value_list (Some s) ts other))

-- an entry of a map of Strings has one
singles_in : (m : Schema) (names values : Option Schema) (ws : Writes) → is_plain_string values ≡ true → entry_fault m names values ws ≡ None → AllByRecursion (λ e. IsSingle e.1) (valued entry_texts (entries_of ws))
singles_in m names values no_writes plain fault = tt
singles_in m names values (write k key no_writes) plain fault = tt
singles_in m names values (write k key (write l v ws)) plain fault =
    let a = no_first (part_fault m names key) (entry_fault m values names (write l v ws)) fault in
    let b = no_first (part_fault m values v) (entry_fault m names values ws) a.1 in
    let x = text_part m values v plain b.0 in
    ((x.0, ap entry_texts x.1), singles_in m names values ws plain b.1)

singles : (m : Schema) (v : Value) → is_plain_string (value_of m) ≡ true → item_fault m v ≡ None → AllByRecursion (λ e. IsSingle e.1) (key_texts v)
singles m (value.map ws) plain fault = singles_in m (key_of m) (value_of m) ws plain fault
singles m (value.scalar s) plain fault = tt
singles m (value.list ws) plain fault = tt
singles m (value.structure ws) plain fault = tt

-- The entries of a query over pairs, beside members of other names.

module _ (others : List (List ℕ)) (ps : List (List ℕ × List ℕ)) (here : Option Schema) where
  -- the texts under a key
  abbrev under : List ℕ → Option (List (List ℕ))
  under key = cond (is_one_of key others) None (some_texts (values_at key ps))

  -- the entry under the name of a piece
  abbrev entry_at : List ℕ → Option (List ℕ × List (List ℕ))
  entry_at name = option_and_then (λ key. option_map (λ ts. (key, ts)) (under key)) (unescaped name)

  abbrev pub entries : List (List ℕ) → Pairs (List (List ℕ))
  entries [] = []
  entries (piece ∷ more) = cons_option (entry_at (named_piece piece).0) (entries more)

  -- what stands under a key is all its texts
  record IsUnder (key : List ℕ) (ts : List (List ℕ)) : Type 0 where
    outside : is_one_of key others ≡ false
    texts : values_at key ps ≡ ts
    some : ts ≢ []

  is_under : (key : List ℕ) (ts : List (List ℕ)) → under key ≡ Some ts → IsUnder key ts
  is_under key ts e = go (is_one_of key others) (values_at key ps) refl refl e
    where
      go : (b : Bool) (us : List (List ℕ)) → is_one_of key others ≡ b → values_at key ps ≡ us → cond b None (some_texts us) ≡ Some ts → IsUnder key ts
      go true us out at h = absurd (cc h)
      go false [] out at h = absurd (cc h)
      go false (u ∷ us) out at h = let same : u ∷ us ≡ ts = cc h in record { outside = out; texts = at ∙ same; some = λ none. let z : u ∷ us ≡ [] = same ∙ none in cc z }

  entry_under : (name : List ℕ) (e : List ℕ × List (List ℕ)) → entry_at name ≡ Some e → under e.0 ≡ Some e.1
  entry_under name e h = go (unescaped name) h
    where
      by : (key : List ℕ) (o : Option (List (List ℕ))) → under key ≡ o → option_map (λ ts. (key, ts)) o ≡ Some e → under e.0 ≡ Some e.1
      by key None u h = absurd (cc h)
      by key (Some ts) u h = let same : (key, ts) ≡ e = cc h in subst (λ (x : List ℕ × List (List ℕ)). under x.0 ≡ Some x.1) same u

      go : (o : Option (List ℕ)) → option_and_then (λ key. option_map (λ ts. (key, ts)) (under key)) o ≡ Some e → under e.0 ≡ Some e.1
      go None h = absurd (cc h)
      go (Some key) h = by key (under key) refl h

  all_under : (more : List (List ℕ)) → AllByRecursion (λ e. under e.0 ≡ Some e.1) (entries more)
  all_under [] = tt
  all_under (piece ∷ more) = go (entry_at (named_piece piece).0) refl (all_under more)
    where
      go : (o : Option (List ℕ × List (List ℕ))) → entry_at (named_piece piece).0 ≡ o → AllByRecursion (λ e. under e.0 ≡ Some e.1) (entries more) → AllByRecursion (λ e. under e.0 ≡ Some e.1) (cons_option o (entries more))
      go None e rest = rest
      go (Some x) e rest = (entry_under (named_piece piece).0 x e, rest)

  -- a piece of the name gives the entry
  entry_there : (name : List ℕ) (ts : List (List ℕ)) (more : List (List ℕ)) → IsUtf8 name → under name ≡ Some ts → values_at (escape name) (map named_piece more) ≢ [] → last_of name (entries more) ≢ None
  entry_there name ts [] utf8 u some = absurd (some refl)
  entry_there name ts (piece ∷ more) utf8 u some = go (same_text (named_piece piece).0 (escape name)) refl (entry_there name ts more utf8 u) some
    where
      front : (o : Option (List (List ℕ))) → option_or o (Some ts) ≢ None
      front None e = cc e
      front (Some x) e = cc e

      kept : (o : Option (List ℕ × List (List ℕ))) → last_of name (entries more) ≢ None → last_of name (cons_option o (entries more)) ≢ None
      kept None there = there
      kept (Some x) there = by (last_of name (entries more)) there
        where
          by : (o : Option (List (List ℕ))) → o ≢ None → option_or o (cond (same_text x.0 name) (Some x.1) None) ≢ None
          by None there e = there refl
          by (Some y) there e = cc e

      go : (t : Bool) → same_text (named_piece piece).0 (escape name) ≡ t → (values_at (escape name) (map named_piece more) ≢ [] → last_of name (entries more) ≢ None)
          → values_at (escape name) (map named_piece (piece ∷ more)) ≢ [] → last_of name (entries (piece ∷ more)) ≢ None
      go true is later h =
          let entry : entry_at (named_piece piece).0 ≡ Some (name, ts) =
          ap entry_at (same_from_test (named_piece piece).0 (escape name) (sym is)) ∙ ap (option_and_then (λ key. option_map (λ ts. (key, ts)) (under key))) (unescaped-escape name utf8) ∙ ap (option_map (λ ts. (name, ts))) u in
          subst (λ o. last_of name (cons_option o (entries more)) ≢ None) (sym entry)
          (subst (λ b. option_or (last_of name (entries more)) (cond b (Some ts) None) ≢ None) (sym (same_self name)) (front (last_of name (entries more))))
      go false is later h = kept (entry_at (named_piece piece).0) (later (λ none. h (rw is none)))

  -- so under each key stand its texts
  pub entries_last : (name : List ℕ) (more : List (List ℕ)) → AllByRecursion IsTextPair ps → (values_at name ps ≢ [] → values_at (escape name) (map named_piece more) ≢ []) → last_of name (entries more) ≡ under name
  entries_last name more utf8 there = go (last_of name (entries more)) (under name) refl refl
    where
      go : (o p : Option (List (List ℕ))) → last_of name (entries more) ≡ o → under name ≡ p → o ≡ p
      go (Some ts) p e f = sym (last_has (λ x. under x.0 ≡ Some x.1) name (entries more) ts (all_under more) e) ∙ f
      go None None e f = refl
      go None (Some ts) e f =
          let x = is_under name ts f in
          let some : values_at name ps ≢ [] = (λ none. x.some (sym x.texts ∙ none)) in
          absurd (entry_there name ts more (IsUtf8-from_is_utf8 name (named_utf8 name ps utf8 some)) f (there some) e)

  abbrev own_entry : List ℕ × List (List ℕ) → List ℕ × Value
  own_entry e = (e.0, own_value here e.1)

  -- no pair has a name that is no text's escape
  none_named : (name : List ℕ) (qs : List (List ℕ × List ℕ)) → AllByRecursion IsTextPair qs → unescaped name ≡ None → AllByRecursion (λ p. p.0 ≢ name) (map named_piece (map pair_text qs))
  none_named name [] utf8 u = tt
  none_named name (p ∷ qs) utf8 u = (
    λ e.
        let is : escape p.0 ≡ name = ap (λ x. x.0) (sym (name_of_pair p)) ∙ e in
        let q : None ≡ Some p.0 = sym u ∙ ap unescaped (sym is) ∙ unescaped-escape p.0 (IsUtf8-from_is_utf8 p.0 utf8.0.0) in
        cc q,
    none_named name qs utf8.1 u,
  )

  -- the entry under a name is read from its pieces
  entry_read : (name : List ℕ) → AllByRecursion IsTextPair ps → ((key : List ℕ) (ts : List (List ℕ)) → under key ≡ Some ts → entry_value here ts ≡ Some (own_value here ts))
      → entry_named others here name (values_at name (map named_piece (map pair_text ps))) ≡ Some (option_map own_entry (entry_at name))
  entry_read name utf8 read = go (unescaped name) refl
    where
      go : (o : Option (List ℕ)) → unescaped name ≡ o
          → entry_named others here name (values_at name (map named_piece (map pair_text ps))) ≡ Some (option_map own_entry (option_and_then (λ key. option_map (λ ts. (key, ts)) (under key)) o))
      go None u = ap (entry_named others here name) (nothing_at name (map named_piece (map pair_text ps)) (none_named name ps utf8 u))
      go (Some key) u = ap (entry_named others here name) shown ∙ by (is_one_of key others) (values_at key ps) refl refl (texts_utf8 key ps utf8)
        where
          is : IsUtf8 key × (escape key ≡ name)
          is = (unescape_is_exact name).has_escape key u

          shown : values_at name (map named_piece (map pair_text ps)) ≡ map (λ x. pair_text (key, x)) (values_at key ps)
          shown = ap (λ n. values_at n (map named_piece (map pair_text ps))) (sym is.1) ∙ pieces_of_pairs key ps (AreBytes-from_utf8 key (is_utf8-from_IsUtf8 key is.0)) (name_bytes ps utf8)

          of_key : List (List ℕ) → List ℕ → Option (Option (List ℕ × Value))
          of_key texts k = if is_one_of k others then Some None else option_map (λ v. Some (k, v)) (option_and_then (entry_value here) (each piece_text texts))

          by : (b : Bool) (ts : List (List ℕ)) → is_one_of key others ≡ b → values_at key ps ≡ ts → AreUtf8 ts
              → entry_named others here name (map (λ x. pair_text (key, x)) ts) ≡ Some (option_map own_entry (option_map (λ ts. (key, ts)) (cond b None (some_texts ts))))
          by true [] out at all = refl
          by false [] out at all = refl
          by true (t ∷ ts) out at all =
              ap (option_and_then (of_key (map (λ x. pair_text (key, x)) (t ∷ ts)))) u
              ∙ ap (λ b. if b then Some None else option_map (λ v. Some (key, v)) (option_and_then (entry_value here) (each piece_text (map (λ x. pair_text (key, x)) (t ∷ ts))))) out
          by false (t ∷ ts) out at all =
              ap (option_and_then (of_key (map (λ x. pair_text (key, x)) (t ∷ ts)))) u
              ∙ ap (λ b. if b then Some None else option_map (λ v. Some (key, v)) (option_and_then (entry_value here) (each piece_text (map (λ x. pair_text (key, x)) (t ∷ ts))))) out
              ∙ ap (λ o. option_map (λ v. Some (key, v)) (option_and_then (entry_value here) o)) (pairs_back key (t ∷ ts) all)
              ∙ ap (option_map (λ v. Some (key, v))) (read key (t ∷ ts) (λ i. cond (out i) None (some_texts (at i))))

  -- all of them
  pub entries_read : (t : Template) (all more : List (List ℕ)) → ((name : List ℕ) → query_entry t others here all name ≡ Some (option_map own_entry (entry_at name))) → query_entries t others here all more ≡ Some (valued (own_value here) (entries more))
  entries_read t all [] each = refl
  entries_read t all (piece ∷ more) each =
      ap (option_and_then (λ e. option_map (cons_option e) (query_entries t others here all more))) (each (named_piece piece).0)
      ∙ ap (option_map (cons_option (option_map own_entry (entry_at (named_piece piece).0)))) (entries_read t all more each)
      ∙ ap Some (go (entry_at (named_piece piece).0))
    where
      go : (o : Option (List ℕ × List (List ℕ))) → cons_option (option_map own_entry o) (valued (own_value here) (entries more)) ≡ valued (own_value here) (cons_option o (entries more))
      go None = refl
      go (Some x) = refl

-- what a request has of a query map is the normal form's part
pub query_map_back : (protocol : Protocol) (schema : Schema) (endpoint : List ℕ) (omit : OmitFlags) (ws : List Write) (q : Request) → IsSeen protocol schema endpoint omit ws q → (i : ℕ) (m : Schema)
    → member_at schema i ≡ Some m → binding_of m ≡ to_query_map → query_map_part (pieces (template_of schema endpoint)) (query_names schema) m (query_pieces q.target) ≡ Some (member_view schema ws i m)
query_map_back protocol schema endpoint omit ws q is i m at query_map =
    ap (option_map (λ es. unless_empty (map_value (Some m) (in_key_order es)))) (entries_read others ps here template target target each_entry)
    ∙ ap (λ es. Some (unless_empty (map_value (Some m) es))) (in_order (own_value here) (entries others ps here target))
    ∙ ap (λ es. Some (unless_empty (map_value (Some m) (valued (own_value here) es)))) same_entries
    ∙ ap Some (sym (query_map_view m others (first_value schema ws i) is_map placed))
    ∙ ap Some (sym (bound_view_of schema ws i m to_query_map at query_map refl))
  where
    others : List (List ℕ)
    others = query_names schema

    ps : List (List ℕ × List ℕ)
    ps = pairs schema ws

    here : Option Schema
    here = value_of m

    template : Template
    template = pieces (template_of schema endpoint)

    target : List (List ℕ)
    target = query_pieces q.target

    texts : Pairs (List (List ℕ))
    texts = written_texts (first_value schema ws i)

    is_map : is_query_map m ≡ true
    is_map = query_map_at schema is.checked i m at query_map

    node : is_text_node here ≡ true
    node = (and_parts (same_kind m.node.kind kind.Map && is_plain_string (key_of m)) (is_text_node here) is_map).1

    placed : (u : Value) → first_value schema ws i ≡ Some u → IsPlacedValue m u
    placed u e = placed_value schema ws i m u is.writes at (ap is_placed_at query_map) e

    utf8 : AllByRecursion IsTextPair ps
    utf8 = pairs_are_utf8 schema ws is.well_made is.writes.conforming is.writes.in_range

    distinct : are_distinct (keys texts) ≡ true
    distinct = distinct_keys m (first_value schema ws i) placed

    all_single : is_plain_string here ≡ true → AllByRecursion (λ e. IsSingle e.1) texts
    all_single plain = go (first_value schema ws i) placed
      where
        go : (o : Option Value) → ((u : Value) → o ≡ Some u → IsPlacedValue m u) → AllByRecursion (λ e. IsSingle e.1) (written_texts o)
        go None fit = tt
        go (Some u) fit = singles m u plain (fit u refl).value.items

    -- beside query members the pairs are the map's
    of_map : (key : List ℕ) → is_one_of key others ≡ false → values_at key ps ≡ values_at key (flat_map text_pairs texts)
    of_map key outside = pairs_of_map schema is.checked ws i m key at query_map (unnamed_outside schema is.checked key outside) ∙ ap (λ t. cond t [] (values_at key (flat_map text_pairs texts))) outside

    single : (key : List ℕ) (ts : List (List ℕ)) → under others ps here key ≡ Some ts → is_plain_string here ≡ true → IsSingle ts
    single key ts u plain = go (last_of key texts) refl
      where
        x : IsUnder others ps here key ts
        x = is_under others ps here key ts u

        whole : unwrap_or (last_of key texts) [] ≡ ts
        whole = sym (values_of_texts key texts distinct) ∙ sym (of_map key x.outside) ∙ x.texts

        go : (o : Option (List (List ℕ))) → last_of key texts ≡ o → IsSingle ts
        go None e = absurd (x.some (sym whole ∙ ap (λ (o : Option (List (List ℕ))). unwrap_or o []) e))
        go (Some us) e = subst IsSingle (ap (λ (o : Option (List (List ℕ))). unwrap_or o []) (sym e) ∙ whole) (last_has (λ x. IsSingle x.1) key texts us (all_single plain) e)

    -- the pieces of the target under a name, behind the template's own
    behind_own : (name : List ℕ) → drop (length (pieces_named name (own_query template))) (pieces_named name target) ≡ values_at name (map named_piece (map pair_text ps))
    behind_own name =
        ap (drop (length (pieces_named name (own_query template))))
        (sym (is.query name)
        ∙ ap (λ xs. values_at name (map named_piece xs)) (pieces_of_query is.request.path ps)
        ∙ ap (values_at name) (map-append named_piece (query_pieces is.request.path) (map pair_text ps))
        ∙ values_at-append name (map named_piece (query_pieces is.request.path)) (map named_piece (map pair_text ps))
        ∙ ap (λ xs. pieces_named name xs ++ values_at name (map named_piece (map pair_text ps)))
        (filled_pieces schema (template_of schema endpoint) (labels schema ws) is.request.path (clear_template schema endpoint is.checked is.typed.clear) is.request.fills))
        ∙ drop-append_seam (pieces_named name (own_query template)) (values_at name (map named_piece (map pair_text ps)))

    each_entry : (name : List ℕ) → query_entry template others here target name ≡ Some (option_map (own_entry others ps here) (entry_at others ps here name))
    each_entry name =
        ap (entry_named others here name) (behind_own name)
        ∙ entry_read others ps here name utf8 (λ key ts u. entry_back here ts node (single key ts u))

    -- a pair has a piece of its name
    there : (name : List ℕ) → values_at name ps ≢ [] → values_at (escape name) (map named_piece target) ≢ []
    there name some none = go (values_at name ps) refl some
      where
        bytes : AreBytes name
        bytes = AreBytes-from_utf8 name (named_utf8 name ps utf8 some)

        empty : map (λ t. pair_text (name, t)) (values_at name ps) ≡ []
        empty =
            sym (pieces_of_pairs name ps bytes (name_bytes ps utf8)) ∙ sym (behind_own (escape name)) ∙ ap (drop (length (pieces_named (escape name) (own_query template)))) none ∙ nothing (length (pieces_named (escape name) (own_query template)))
          where
            nothing : (n : ℕ) → ◌≡◌ {A = List (List ℕ)} (drop n []) []
            nothing zero = refl
            nothing (suc n) = refl

        go : (ts : List (List ℕ)) → values_at name ps ≡ ts → ts ≢ [] → ⊥
        go [] e h = h refl
        go (t ∷ ts) e h = let z : pair_text (name, t) ∷ map (λ t. pair_text (name, t)) ts ≡ [] = ap (map (λ t. pair_text (name, t))) (sym e) ∙ empty in cc z

    same_entries : all_put (entries others ps here target) [] ≡ ordered_texts others texts
    same_entries =
        known_by_names (all_put (entries others ps here target) []) (ordered_texts others texts) (ordered_ascends (entries others ps here target)) (query_texts_ascend others texts)
        (λ name. look_ordered name (entries others ps here target) ∙ entries_last others ps here name target utf8 (there name) ∙ by name (is_one_of name others) refl ∙ sym (query_texts_at others name texts distinct))
      where
        by : (name : List ℕ) (t : Bool) → is_one_of name others ≡ t → cond (is_one_of name others) None (some_texts (values_at name ps)) ≡ cond (is_one_of name others) None (some_texts (values_at name (flat_map text_pairs texts)))
        by name true e = rw e refl
        by name false e = rw e (ap some_texts (of_map name e))
