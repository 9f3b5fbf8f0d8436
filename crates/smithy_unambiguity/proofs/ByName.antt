-- What stands at a name, in the query and in headers.
use Rattle.smithy_unambiguity.proofs.Common.{◌≡◌, ◌≢◌, refl, sym, ◌∙◌, ap, subst, ℕ, Bool, true, false, not, cond, List, [], ◌∷◌, ◌++◌, map, filter, find, flat_map, Option, Some, None, option_map, option_to_list, if◌then◌else◌, AllByRecursion, option_or, found, same_text, is_one_of, Value, Resolved, entry_texts, texts, entry_pairs, has_key_outside, values_at, same_text_self, cond_both, false_from_ne_true, not-true, not-false}
use Rattle.std.specs.Cmp.Lexicographic.{same_text as same_from_test}
use Rattle.smithy_http.specs.Headers.{without, put, put_all}
use Rattle.smithy_unambiguity.proofs.LastTexts.{last_value, last_at}
use Rattle.smithy_unambiguity.proofs.Queries.{values_at-append, onto, values_at-cons}

-- nothing stands at a name that none of them has
pub nothing_at : (name : List ℕ) (ps : List (List ℕ × List ℕ)) → AllByRecursion (λ p. p.0 ≢ name) ps → values_at name ps ≡ []
nothing_at name [] all = refl
nothing_at name (p ∷ ps) all =
    values_at-cons name p ps ∙ ap (λ t. onto t p (values_at name ps)) (false_from_ne_true (same_text p.0 name) (λ e. all.0 (same_from_test p.0 name (sym e)))) ∙ nothing_at name ps all.1

-- Headers: each name once.

without_self : (name : List ℕ) (ps : List (List ℕ × List ℕ)) → values_at name (without name ps) ≡ []
without_self name [] = refl
without_self name (p ∷ ps) =
    cond_both (not (same_text p.0 name)) (p ∷ without name ps) (without name ps) (λ l. values_at name l ≡ [])
    (λ e. values_at-cons name p (without name ps) ∙ ap (λ t. onto t p (values_at name (without name ps))) (not-true (same_text p.0 name) e) ∙ without_self name ps)
    (λ e. without_self name ps)

without_other : (name other : List ℕ) (ps : List (List ℕ × List ℕ)) → same_text other name ≡ false → values_at name (without other ps) ≡ values_at name ps
without_other name other [] apart = refl
without_other name other (p ∷ ps) apart =
    let rest = without_other name other ps apart in
    cond_both (not (same_text p.0 other)) (p ∷ without other ps) (without other ps) (λ l. values_at name l ≡ values_at name (p ∷ ps))
    (λ e. values_at-cons name p (without other ps) ∙ ap (onto (same_text p.0 name) p) rest ∙ sym (values_at-cons name p ps))
    (λ e.
    let unlike = ap (λ n. same_text n name) (same_from_test p.0 other (sym (not-false (same_text p.0 other) e))) ∙ apart in
    rest ∙ ap (λ t. onto t p (values_at name ps)) (sym unlike) ∙ sym (values_at-cons name p ps))

abbrev pub front : List (List ℕ) → Option (List ℕ)
front [] = None
front (x ∷ xs) = Some x

pub found-front : (name : List ℕ) (ps : List (List ℕ × List ℕ)) → found name ps ≡ front (values_at name ps)
found-front name [] = refl
found-front name (p ∷ ps) = go (same_text p.0 name) (found-front name ps)
  where
    go : (t : Bool) → found name ps ≡ front (values_at name ps)
        → option_map (λ q. q.1) (cond t (Some p) (find (λ q. same_text q.0 name) ps)) ≡ front (map (λ q. q.1) (cond t (p ∷ filter (λ q. same_text q.0 name) ps) (filter (λ q. same_text q.0 name) ps)))
    go true rest = refl
    go false rest = rest

-- what is put stands alone at its name
values_at-put : (ps : List (List ℕ × List ℕ)) (p : List ℕ × List ℕ) → values_at p.0 (put ps p) ≡ p.1 ∷ []
values_at-put [] p = rw (same_text_self p.0) refl
values_at-put (q ∷ qs) p = go (same_text q.0 p.0) refl (values_at-put qs p)
  where
    go : (b : Bool) → same_text q.0 p.0 ≡ b → values_at p.0 (put qs p) ≡ p.1 ∷ [] → values_at p.0 (if b then (q.0, p.1) ∷ without p.0 qs else q ∷ put qs p) ≡ p.1 ∷ []
    go true e rest = rw e (ap (λ xs. p.1 ∷ xs) (without_self p.0 qs))
    go false e rest = rw e rest

-- and changes nothing at another name
values_at-put_other : (name : List ℕ) (ps : List (List ℕ × List ℕ)) (p : List ℕ × List ℕ) → same_text p.0 name ≡ false → values_at name (put ps p) ≡ values_at name ps
values_at-put_other name [] p unlike = rw unlike refl
values_at-put_other name (q ∷ qs) p unlike = go (same_text q.0 p.0) refl (values_at-put_other name qs p unlike)
  where
    go : (b : Bool) → same_text q.0 p.0 ≡ b → values_at name (put qs p) ≡ values_at name qs → values_at name (if b then (q.0, p.1) ∷ without p.0 qs else q ∷ put qs p) ≡ values_at name (q ∷ qs)
    go true e rest = let unlike_q : same_text q.0 name ≡ false = ap (λ t. same_text t name) (same_from_test q.0 p.0 (sym e)) ∙ unlike in rw unlike_q (without_other name p.0 qs unlike)
    go false e rest = go_kept (same_text q.0 name) refl
      where
        go_kept : (c : Bool) → same_text q.0 name ≡ c → values_at name (q ∷ put qs p) ≡ values_at name (q ∷ qs)
        go_kept true h = rw h (ap (λ xs. q.1 ∷ xs) rest)
        go_kept false h = rw h rest

abbrev or_else : Option (List ℕ) → List (List ℕ) → List (List ℕ)
or_else (Some x) before = x ∷ []
or_else None before = before

or_else-later : (o : Option (List ℕ)) (v : List ℕ) (before : List (List ℕ)) → or_else o (v ∷ []) ≡ or_else (option_or o (Some v)) before
or_else-later None v before = refl
or_else-later (Some x) v before = refl

values_at-put_all : (name : List ℕ) (done ps : List (List ℕ × List ℕ)) → values_at name (put_all done ps) ≡ or_else (last_value (values_at name ps)) (values_at name done)
values_at-put_all name done [] = refl
values_at-put_all name done (p ∷ ps) = values_at-put_all name (put done p) ps ∙ go (same_text p.0 name) refl
  where
    go : (t : Bool) → same_text p.0 name ≡ t → or_else (last_value (values_at name ps)) (values_at name (put done p)) ≡ or_else (last_value (values_at name (p ∷ ps))) (values_at name done)
    go true e =
        let here : values_at name (put done p) ≡ p.1 ∷ [] = subst (λ (n : List ℕ). values_at n (put done p) ≡ p.1 ∷ []) (same_from_test p.0 name (sym e)) (values_at-put done p) in
        rw (e, here) (or_else-later (last_value (values_at name ps)) p.1 (values_at name done))
    go false e = rw (e, values_at-put_other name done p e) refl

-- a name stands once, with its last value
pub each_once_at : (name : List ℕ) (ps : List (List ℕ × List ℕ)) → values_at name (put_all [] ps) ≡ last_at name ps
each_once_at name ps = values_at-put_all name [] ps ∙ go (last_value (values_at name ps))
  where
    go : (o : Option (List ℕ)) → or_else o [] ≡ option_to_list o
    go None = refl
    go (Some x) = refl

-- The query.

pub values_at-flat_map : (name : List ℕ) (g : Resolved → List (List ℕ × List ℕ)) (rs : List Resolved) → values_at name (flat_map g rs) ≡ flat_map (λ r. values_at name (g r)) rs
values_at-flat_map name g [] = refl
values_at-flat_map name g (r ∷ rs) = values_at-append name (g r) (flat_map g rs) ∙ ap (λ xs. values_at name (g r) ++ xs) (values_at-flat_map name g rs)

pub under_name : (name other : List ℕ) (t : Bool) (texts : List (List ℕ)) → same_text other name ≡ t → values_at name (map (λ x. (other, x)) texts) ≡ cond t texts []
under_name name other true [] e = refl
under_name name other false [] e = refl
under_name name other true (x ∷ texts) e = values_at-cons name (other, x) (map (λ y. (other, y)) texts) ∙ (λ i. onto (e i) (other, x) (under_name name other true texts e i))
under_name name other false (x ∷ texts) e = values_at-cons name (other, x) (map (λ y. (other, y)) texts) ∙ (λ i. onto (e i) (other, x) (under_name name other false texts e i))

abbrev pub no_values : List (List ℕ)
no_values = []

-- what a map's entries of other keys than these names give at a name
pub entries_at : (name : List ℕ) (names : List (List ℕ)) (es : List (List ℕ × Value)) → values_at name (flat_map entry_pairs (filter (has_key_outside names) es)) ≡ cond (is_one_of name names) [] (values_at name (flat_map entry_pairs es))
entries_at name names [] = cond_both (is_one_of name names) no_values no_values (λ vs. no_values ≡ vs) (λ e. refl) (λ e. refl)
entries_at name names (e ∷ es) = go (same_text e.0 name) (is_one_of e.0 names) (is_one_of name names) refl refl refl (entries_at name names es)
  where
    here : (t : Bool) → same_text e.0 name ≡ t → (more : List (List ℕ × Value)) → values_at name (flat_map entry_pairs (e ∷ more)) ≡ cond t (entry_texts e.1) [] ++ values_at name (flat_map entry_pairs more)
    here t is more = values_at-append name (entry_pairs e) (flat_map entry_pairs more) ∙ ap (λ vs. vs ++ values_at name (flat_map entry_pairs more)) (under_name name e.0 t (entry_texts e.1) is)

    go : (s t u : Bool) → same_text e.0 name ≡ s → is_one_of e.0 names ≡ t → is_one_of name names ≡ u
        → values_at name (flat_map entry_pairs (filter (has_key_outside names) es)) ≡ cond (is_one_of name names) [] (values_at name (flat_map entry_pairs es))
        → values_at name (flat_map entry_pairs (cond (not (is_one_of e.0 names)) (e ∷ filter (has_key_outside names) es) (filter (has_key_outside names) es))) ≡ cond (is_one_of name names) [] (values_at name (flat_map entry_pairs (e ∷ es)))
    go s true true is et eu rest = rw (et, eu) (rw eu at rest)
    go false false u is et eu rest = rw et (here false is (filter (has_key_outside names) es) ∙ rest ∙ ap (cond (is_one_of name names) []) (sym (here false is es)))
    go false true u is et eu rest = rw et (rest ∙ ap (cond (is_one_of name names) []) (sym (here false is es)))
    go true false false is et eu rest = rw (et, eu) (here true is (filter (has_key_outside names) es) ∙ ap (λ vs. entry_texts e.1 ++ vs) (rw eu at rest) ∙ sym (here true is es))
    go true true false is et eu rest = let q : true ≡ false = sym et ∙ ap (λ n. is_one_of n names) (same_from_test e.0 name (sym is)) ∙ eu in absurd (cc q)
    go true false true is et eu rest = let q : true ≡ false = sym eu ∙ ap (λ n. is_one_of n names) (sym (same_from_test e.0 name (sym is))) ∙ et in absurd (cc q)
