-- The test of the same facts is that they are the same.
use Rattle.std.proofs.Common.{◌≡◌, refl, sym, ◌∙◌, ap, subst, cond, ℕ, Bool, true, false, List, [], ◌∷◌, ◌++◌, map, filter, ◌⊎◌, inl, inr, Option, Some, None, option_map}
use Rattle.std.specs.List.{AllByRecursion, list_all}
use Rattle.std.specs.Cmp.Lexicographic.{same_text as same_from_test}
use Rattle.std.proofs.lemmas.Bool.{and_parts, and_from}
use Rattle.smithy_types.specs.Grammars.{before_query}
use Rattle.smithy_types.specs.Texts.{same_text}
use Rattle.smithy_http.specs.Facts.{Facts, facts, values_at, query_pieces, named_piece}
use Rattle.smithy_http.specs.Requests.{Request}
use Rattle.smithy_strings.proofs.UnescapeLaws.{same_self}
use Rattle.smithy_recovery.specs.SameFacts.{same_texts, has_same_values, query_pairs, has_same_facts}
use Rattle.std.specs.Option.{option_map_or}
use Rattle.smithy_unambiguity.proofs.Lists.{all_from_test}

texts_same : (ts us : List (List ℕ)) → same_texts ts us ≡ true → ts ≡ us
texts_same [] [] e = refl
texts_same (t ∷ ts) (u ∷ us) e =
    let parts = and_parts (same_text t u) (same_texts ts us) e in
    λ i. same_from_test t u (sym parts.0) i ∷ texts_same ts us parts.1 i
texts_same [] (u ∷ us) e = absurd (cc e)
texts_same (t ∷ ts) [] e = absurd (cc e)

same_texts_self : (ts : List (List ℕ)) → same_texts ts ts ≡ true
same_texts_self [] = refl
same_texts_self (t ∷ ts) = and_from (same_text t t) (same_texts ts ts) (same_self t) (same_texts_self ts)

-- a name stands there, or it has no values
data_at : (name : List ℕ) (ps : List (List ℕ × List ℕ)) (P : List ℕ → Type 0) → AllByRecursion (λ p. P p.0) ps → P name ⊎ (values_at name ps ≡ [])
data_at name [] P all = inr refl
data_at name (p ∷ ps) P all = go (same_text p.0 name) refl (data_at name ps P all.1)
  where
    go : (t : Bool) → same_text p.0 name ≡ t → P name ⊎ (values_at name ps ≡ []) → P name ⊎ (map (λ (q : List ℕ × List ℕ). q.1) (cond t (p ∷ filter (λ q. same_text q.0 name) ps) (filter (λ q. same_text q.0 name) ps)) ≡ [])
    go true e rest = inl (subst P (same_from_test p.0 name (sym e)) all.0)
    go false e rest = rest

front_all : (P : List ℕ × List ℕ → Type 0) (ps qs : List (List ℕ × List ℕ)) → AllByRecursion P (ps ++ qs) → AllByRecursion P ps × AllByRecursion P qs
front_all P [] qs all = (tt, all)
front_all P (p ∷ ps) qs all = let rest = front_all P ps qs all.1 in ((all.0, rest.0), rest.1)

pub values_from_test : (ps qs : List (List ℕ × List ℕ)) → has_same_values ps qs ≡ true → (name : List ℕ) → values_at name ps ≡ values_at name qs
unfolding has_same_values
values_from_test ps qs e name =
    let all = front_all (λ p. same_texts (values_at p.0 ps) (values_at p.0 qs) ≡ true) ps qs (all_from_test (λ p. same_texts (values_at p.0 ps) (values_at p.0 qs)) (ps ++ qs) e) in
    go (data_at name ps (λ n. same_texts (values_at n ps) (values_at n qs) ≡ true) all.0) (data_at name qs (λ n. same_texts (values_at n ps) (values_at n qs) ≡ true) all.1)
  where
    go : ((same_texts (values_at name ps) (values_at name qs) ≡ true) ⊎ (values_at name ps ≡ [])) → ((same_texts (values_at name ps) (values_at name qs) ≡ true) ⊎ (values_at name qs ≡ [])) → values_at name ps ≡ values_at name qs
    go (inl same) q = texts_same (values_at name ps) (values_at name qs) same
    go (inr none) (inl same) = texts_same (values_at name ps) (values_at name qs) same
    go (inr none) (inr nothing) = none ∙ sym nothing

every : (test : List ℕ × List ℕ → Bool) (ps : List (List ℕ × List ℕ)) → ((p : List ℕ × List ℕ) → test p ≡ true) → list_all test ps ≡ true
every test [] all = refl
every test (p ∷ ps) all = and_from (test p) (list_all test ps) (all p) (every test ps all)

pub test_from_values : (ps qs : List (List ℕ × List ℕ)) → ((name : List ℕ) → values_at name ps ≡ values_at name qs) → has_same_values ps qs ≡ true
unfolding has_same_values
test_from_values ps qs same =
    every (λ p. same_texts (values_at p.0 ps) (values_at p.0 qs)) (ps ++ qs) (λ p. ap (λ us. same_texts (values_at p.0 ps) us) (sym (same p.0)) ∙ same_texts_self (values_at p.0 ps))

-- Targets that are the same have one path and one query.

pub path_of_same : (target other : List ℕ) → same_text target other ≡ true → true ≡ same_text (before_query target) (before_query other)
path_of_same target other e =
    let same : target ≡ other = same_from_test target other (sym e) in
    sym (ap (λ t. same_text (before_query target) (before_query t)) (sym same) ∙ same_self (before_query target))

pub query_of_same : (target other : List ℕ) → same_text target other ≡ true → true ≡ has_same_values (query_pairs target) (query_pairs other)
query_of_same target other e =
    let same : target ≡ other = same_from_test target other (sym e) in
    sym (test_from_values (query_pairs target) (query_pairs other) (λ name. ap (λ t. values_at name (query_pairs t)) same))

-- Facts.

pub facts_from_test : (p q : Request) → has_same_facts p q ≡ true → facts p ≡ facts q
facts_from_test p q e =
    let a = and_parts (same_text p.method q.method) _ e in
    let b = and_parts (same_text (before_query p.target) (before_query q.target)) _ a.1 in
    let c = and_parts (same_text p.body q.body) _ b.1 in
    let d = and_parts (has_same_values p.headers q.headers) _ c.1 in
    let methods = same_from_test p.method q.method (sym a.0) in
    let paths = same_from_test (before_query p.target) (before_query q.target) (sym b.0) in
    let bodies = same_from_test p.body q.body (sym c.0) in
    λ i. record {
      method = methods i;
      path = paths i;
      headers = λ name. values_from_test p.headers q.headers d.0 name i;
      query = λ name. values_from_test (map named_piece (query_pieces p.target)) (map named_piece (query_pieces q.target)) d.1 name i;
      body = bodies i;
    }

pub test_from_facts : (p q : Request) → facts p ≡ facts q → has_same_facts p q ≡ true
test_from_facts p q e =
    and_from _ _ (ap (same_text p.method) (sym (ap (λ (f : Facts). f.method) e)) ∙ same_self p.method)
    (and_from _ _ (ap (same_text (before_query p.target)) (sym (ap (λ (f : Facts). f.path) e)) ∙ same_self (before_query p.target))
    (and_from _ _ (ap (same_text p.body) (sym (ap (λ (f : Facts). f.body) e)) ∙ same_self p.body)
    (and_from _ _ (test_from_values p.headers q.headers (λ name. ap (λ (f : Facts). f.headers name) e))
    (test_from_values (map named_piece (query_pieces p.target)) (map named_piece (query_pieces q.target)) (λ name. ap (λ (f : Facts). f.query name) e)))))

-- so it is of a request that may not be there
pub seen_from_test : (o : Option Request) (q : Request) → option_map_or (λ p. has_same_facts p q) o false ≡ true → option_map facts o ≡ Some (facts q)
seen_from_test None q e = absurd (cc e)
seen_from_test (Some p) q e = ap Some (facts_from_test p q e)
