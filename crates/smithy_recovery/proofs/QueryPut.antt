-- What is put for the pieces of a query one after another are the entries of the query map.
use Rattle.std.proofs.Common.{◌≡◌, refl, sym, ◌∙◌, ap, subst, cond, ℕ, Bool, true, false, not, List, [], ◌∷◌, length, drop, Option, Some, None, option_map, option_and_then, is_some}
use Rattle.std.specs.Cmp.Lexicographic.{slice_cmp, same_text as same_from_test}
use Rattle.std.specs.List.{AllByRecursion, cons_option}
use Rattle.std.specs.Map.{lookup}
use Rattle.std.specs.Ordering.{nat_cmp, is_eq, match_ordering}
use Rattle.std.specs.declared.cmp.Ordering.{Ordering}
use Rattle.std.specs.declared.cmp.Ordering.TheVariants.{Less, Equal, Greater}
use Rattle.std.proofs.lemmas.Map.Text.{is_eq-slice_cmp}
use Rattle.smithy_types.specs.Maps.{with_value, all_put}
use Rattle.smithy_types.specs.Texts.{same_text, is_one_of}
use Rattle.smithy_http.specs.Facts.{named_piece}
use Rattle.smithy_schema.specs.Nodes.{Schema, value_of}
use Rattle.smithy_schema.specs.Templates.{Template}
use Rattle.smithy_serde.specs.NormalBody.{in_key_order, map_value}
use Rattle.smithy_serde.specs.Values.{Value}
use Rattle.std.specs.Bool.{then_some}
use Rattle.smithy_strings.specs.Escapes.{escape, unescaped}
use Rattle.smithy_strings.proofs.UnescapeLaws.{unescape_is_exact}
use Rattle.smithy_binding.specs.NormalForm.{unless_empty}
use Rattle.smithy_binding.proofs.DistinctNames.{same_text-sym}
use Rattle.smithy_document.proofs.OrderedPairs.{same_name, looked, Ascends, absent, up_tail, all_ascend}
use Rattle.smithy_recovery.specs.views.KeptQueries.{Entries, QueryNames, is_named, HasNames, unnamed_key, value_under, value_put, under_put, pieces_put}
use Rattle.smithy_recovery.specs.MapParts.{entry_named, query_entry, query_entries, query_map_part}
use Rattle.smithy_recovery.specs.views.Pieces.{NamedPieces, HasLeft, named_left}
use Rattle.smithy_recovery.specs.QueryParts.{own_query, pieces_named}
use Rattle.smithy_recovery.proofs.EntriesPut.{part_of}

-- Entries in byte order of their keys.

-- an entry that is put, and those that were there
put_each : (Q : List ℕ × Value → Type 0) (key : List ℕ) (v : Value) (es : Entries) → Q (key, v) → AllByRecursion Q es → AllByRecursion Q (with_value key v es)
put_each Q key v [] has all = (has, tt)
put_each Q key v (p ∷ es) has all = go (slice_cmp nat_cmp key p.0) refl (put_each Q key v es has all.1)
  where
    go : (o : Ordering) → slice_cmp nat_cmp key p.0 ≡ o → AllByRecursion Q (with_value key v es) → AllByRecursion Q (match_ordering o ((key, v) ∷ p ∷ es) ((p.0, v) ∷ es) (p ∷ with_value key v es))
    go Less is rest = (has, all)
    go Equal is rest = (subst (λ n. Q (n, v)) (same_name key p.0 is) has, all.1)
    go Greater is rest = (all.0, rest)

-- the entry of a key
found_has : (Q : List ℕ × Value → Type 0) (key : List ℕ) (v : Value) (es : Entries) → AllByRecursion Q es → lookup (same_text key) es ≡ Some v → Q (key, v)
found_has Q key v [] all e = absurd (cc e)
found_has Q key v (p ∷ es) all e = go (same_text key p.0) refl (found_has Q key v es all.1) e
  where
    go : (b : Bool) → same_text key p.0 ≡ b → (lookup (same_text key) es ≡ Some v → Q (key, v)) → cond b (Some p.1) (lookup (same_text key) es) ≡ Some v → Q (key, v)
    go true is later h = let same : p.1 ≡ v = cc h in subst Q (λ i. (sym (same_from_test key p.0 (sym is)) i, same i)) all.0
    go false is later h = later h

lookup_looked : (key : List ℕ) (es : Entries) → lookup (same_text key) es ≡ looked key es
lookup_looked key [] = refl
lookup_looked key (p ∷ es) = λ i. cond (same_text-sym key p.0 i) (Some p.1) (lookup_looked key es i)

-- an entry that is there is put again
put_again : (key : List ℕ) (v : Value) (es : Entries) → Ascends es → lookup (same_text key) es ≡ Some v → with_value key v es ≡ es
put_again key v [] up e = absurd (cc e)
put_again key v (p ∷ es) up e = go (slice_cmp nat_cmp key p.0) refl (same_text key p.0) refl (put_again key v es (up_tail p.0 es up)) e
  where
    tested : (o : Ordering) (b : Bool) → slice_cmp nat_cmp key p.0 ≡ o → same_text key p.0 ≡ b → is_eq o ≡ b
    tested o b is same = sym (ap is_eq is) ∙ is_eq-slice_cmp key p.0 ∙ same

    go : (o : Ordering) → slice_cmp nat_cmp key p.0 ≡ o → (b : Bool) → same_text key p.0 ≡ b → (lookup (same_text key) es ≡ Some v → with_value key v es ≡ es)
        → cond b (Some p.1) (lookup (same_text key) es) ≡ Some v → match_ordering o ((key, v) ∷ p ∷ es) ((p.0, v) ∷ es) (p ∷ with_value key v es) ≡ p ∷ es
    go Less is b same rest h = let bad : None ≡ Some v = sym (absent key (p ∷ es) (is, up)) ∙ sym (lookup_looked key (p ∷ es)) ∙ e in absurd (cc bad)
    go Equal is true same rest h = let one : v ≡ p.1 = cc h in ap (λ x. (p.0, x) ∷ es) one
    go Equal is false same rest h = let bad : true ≡ false = tested Equal false is same in absurd (cc bad)
    go Greater is true same rest h = let bad : false ≡ true = tested Greater true is same in absurd (cc bad)
    go Greater is false same rest h = ap (λ xs. p ∷ xs) (rest h)

-- An entry is put if there is one.
abbrev put_entry : Option (Option (List ℕ × Value)) → Entries → Option Entries
put_entry None es = None
put_entry (Some None) es = Some es
put_entry (Some (Some e)) es = Some (with_value e.0 e.1 es)

abbrev as_entry : List ℕ → Option Value → Option (Option (List ℕ × Value))
as_entry key o = option_map (λ v. Some (key, v)) o

value_entry : (key : List ℕ) (o : Option Value) (es : Entries) → option_map (λ v. with_value key v es) o ≡ put_entry (as_entry key o) es
value_entry key None es = refl
value_entry key (Some v) es = refl

-- a key's value is put where it has none, and where it is there it is put again
key_put : (key : List ℕ) (here : Option Schema) (ps : List (List ℕ)) (es : Entries) (b : Bool) → Ascends es
    → ((v : Value) → lookup (same_text key) es ≡ Some v → cond b (Some None) (as_entry key (value_under here ps)) ≡ Some (Some (key, v)))
    → value_put here ps es (then_some (not b) key) ≡ put_entry (cond b (Some None) (as_entry key (value_under here ps))) es
key_put key here ps es true up met = refl
key_put key here ps es false up met = go (lookup (same_text key) es) refl
  where
    go : (o : Option Value) → lookup (same_text key) es ≡ o → cond (is_some o) (Some es) (option_map (λ v. with_value key v es) (value_under here ps)) ≡ put_entry (as_entry key (value_under here ps)) es
    go None at = value_entry key (value_under here ps) es
    go (Some v) at = ap Some (sym (put_again key v es up at)) ∙ ap (λ x. put_entry x es) (sym (met v at))

-- The entries of a query, whose pieces, a template's and the names of query members are kept by their names.

module _ (t : Template) (all : List (List ℕ)) (here : Option Schema) (ps : List (List ℕ)) (own pieces : NamedPieces) (names : QueryNames) (left : HasLeft (own_query t) ps own pieces) (named : HasNames all names) where
  -- the entry under a name
  abbrev entry_at : List ℕ → Option (Option (List ℕ × Value))
  entry_at name = query_entry t all here ps name

  abbrev left_at : List ℕ → List (List ℕ)
  left_at name = drop (length (pieces_named name (own_query t))) (pieces_named name ps)

  -- it is the one under its key's escape
  abbrev IsOwn : List ℕ × Value → Type 0
  IsOwn e = entry_at (escape e.0) ≡ Some (Some e)

  -- the entry of a key by its pieces
  abbrev of_key : List (List ℕ) → List ℕ → Option (Option (List ℕ × Value))
  of_key xs key = cond (is_one_of key all) (Some None) (as_entry key (value_under here xs))

  key_of_entry : (name : List ℕ) (e : List ℕ × Value) (xs : List (List ℕ)) → entry_named all here name xs ≡ Some (Some e) → escape e.0 ≡ name
  key_of_entry name e [] h = absurd (cc h)
  key_of_entry name e (x ∷ xs) h = go (unescaped name) refl h
    where
      by : (key : List ℕ) (b : Bool) (o : Option Value) → cond b (Some None) (as_entry key o) ≡ Some (Some e) → key ≡ e.0
      by key true o k = absurd (cc k)
      by key false None k = absurd (cc k)
      by key false (Some v) k = let same : (key, v) ≡ e = cc k in ap (λ (y : List ℕ × Value). y.0) same

      go : (o : Option (List ℕ)) → unescaped name ≡ o → option_and_then (of_key (x ∷ xs)) o ≡ Some (Some e) → escape e.0 ≡ name
      go None is k = absurd (cc k)
      go (Some key) is k = ap escape (sym (by key (is_one_of key all) (value_under here (x ∷ xs)) k)) ∙ ((unescape_is_exact name).has_escape key is).1

  own_entry : (name : List ℕ) (e : List ℕ × Value) → entry_at name ≡ Some (Some e) → IsOwn e
  own_entry name e h = ap entry_at (key_of_entry name e (left_at name) h) ∙ h

  -- one name further
  some_put : (name : List ℕ) (es : Entries) → Ascends es → AllByRecursion IsOwn es → (xs : List (List ℕ)) → left_at name ≡ xs → entry_named all here name xs ≡ option_and_then (of_key xs) (unescaped name)
      → option_and_then (value_put here xs es) (unnamed_key names name) ≡ put_entry (option_and_then (of_key xs) (unescaped name)) es
  some_put name es up all_own xs is whole = go (unescaped name) refl
    where
      go : (o : Option (List ℕ)) → unescaped name ≡ o → option_and_then (value_put here xs es) (option_map (λ key. then_some (not (is_named names key)) key) o) ≡ put_entry (option_and_then (of_key xs) o) es
      go None u = refl
      go (Some key) u =
          key_put key here xs es (is_named names key) up
          (λ v at.
          ap (λ b. cond b (Some None) (as_entry key (value_under here xs))) (named key) ∙ ap (option_and_then (of_key xs)) (sym u) ∙ sym whole ∙ ap (entry_named all here name) (sym is)
          ∙ ap entry_at (sym ((unescape_is_exact name).has_escape key u).1) ∙ found_has IsOwn key v es all_own at)
          ∙ ap (λ b. put_entry (cond b (Some None) (as_entry key (value_under here xs))) es) (named key)

  name_put : (name : List ℕ) (es : Entries) → Ascends es → AllByRecursion IsOwn es → under_put names here name (named_left own pieces name) es ≡ put_entry (entry_at name) es
  name_put name es up all_own = ap (λ xs. under_put names here name xs es) (left name) ∙ go (left_at name) refl
    where
      go : (xs : List (List ℕ)) → left_at name ≡ xs → under_put names here name xs es ≡ put_entry (entry_named all here name xs) es
      go [] is = refl
      go (x ∷ xs) is = some_put name es up all_own (x ∷ xs) is refl

  -- and the names of some pieces
  names_put : (more : List (List ℕ)) (es : Entries) → Ascends es → AllByRecursion IsOwn es → pieces_put own pieces names here more es ≡ option_map (λ xs. all_put xs es) (query_entries t all here ps more)
  names_put [] es up all_own = refl
  names_put (piece ∷ more) es up all_own =
      ap (option_and_then (pieces_put own pieces names here more)) (name_put (named_piece piece).0 es up all_own) ∙ go (entry_at (named_piece piece).0) refl (names_put more)
    where
      joined : (o : Option (List ℕ × Value)) (r : Option Entries) → option_map (λ xs. all_put (cons_option o xs) es) r ≡ option_map (λ xs. all_put xs es) (option_map (cons_option o) r)
      joined o None = refl
      joined o (Some xs) = refl

      go : (o : Option (Option (List ℕ × Value))) → entry_at (named_piece piece).0 ≡ o
          → ((es : Entries) → Ascends es → AllByRecursion IsOwn es → pieces_put own pieces names here more es ≡ option_map (λ xs. all_put xs es) (query_entries t all here ps more))
          → option_and_then (pieces_put own pieces names here more) (put_entry o es) ≡ option_map (λ xs. all_put xs es) (option_and_then (λ e. option_map (cons_option e) (query_entries t all here ps more)) o)
      go None is rest = refl
      go (Some None) is rest = rest es up all_own ∙ joined None (query_entries t all here ps more)
      go (Some (Some e)) is rest =
          rest (with_value e.0 e.1 es) (all_ascend (e ∷ []) es up) (put_each IsOwn e.0 e.1 es (own_entry (named_piece piece).0 e is) all_own) ∙ joined (Some e) (query_entries t all here ps more)

  pub pieces_read : pieces_put own pieces names here ps [] ≡ option_map in_key_order (query_entries t all here ps ps)
  pieces_read = names_put ps [] tt tt

-- the part of the query map, by what was put
pub query_put : (t : Template) (all : List (List ℕ)) (m : Schema) (ps : List (List ℕ)) (own pieces : NamedPieces) (names : QueryNames) → HasLeft (own_query t) ps own pieces → HasNames all names
    → part_of m (pieces_put own pieces names (value_of m) ps []) ≡ query_map_part t all m ps
query_put t all m ps own pieces names left named =
    ap (part_of m) (pieces_read t all (value_of m) ps own pieces names left named) ∙ go (query_entries t all (value_of m) ps ps)
  where
    go : (o : Option Entries) → part_of m (option_map in_key_order o) ≡ option_map (λ es. unless_empty (map_value (Some m) (in_key_order es))) o
    go None = refl
    go (Some es) = refl
