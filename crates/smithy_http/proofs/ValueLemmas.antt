-- The values of a name among pairs.
use Rattle.std.proofs.Common.{◌≡◌, refl, sym, ◌∙◌, ap, subst, ℕ, suc, ◌+◌, arith, Bool, true, false, cond, List, [], ◌∷◌, map, filter, position, get_or, take, drop, Some, None, string_bytes}
use Rattle.std.proofs.lemmas.Slice.Eq.{bytes_eq-Decides}
use Rattle.smithy_types.specs.Texts.{same_text}
use Rattle.smithy_http.specs.declared.pairs.Pair.{Pair}
use Rattle.std.specs.Str.{is_utf8, str_to_ascii_lowercase}
use Rattle.std.proofs.lemmas.Str.Ascii.{lowercase-lowercase}
use Rattle.smithy_http.specs.Facts.{values_at}
use Rattle.smithy_http.specs.HeaderValues.{text_of, texts_in}
use Rattle.smithy_http.specs.views.Pairs.{pair_of, name_of, is_named, AreApart}
use Rattle.smithy_http.proofs.PlaceLemmas.{none-cons, some-cons, position-map}

abbrev values_of : List ℕ → List Pair → List (List ℕ)
values_of name xs = values_at name (map pair_of xs)

abbrev named_pairs : List ℕ → List Pair → List (List ℕ × List ℕ)
named_pairs name xs = filter (λ p. same_text p.0 name) (map pair_of xs)

values_cons : (name : List ℕ) (x : Pair) (xs : List Pair) → values_of name (x ∷ xs) ≡ cond (is_named name x) (x.value ∷ values_of name xs) (values_of name xs)
values_cons name x xs = go (is_named name x)
  where
    go : (b : Bool) → map (λ (p : List ℕ × List ℕ). p.1) (cond b (pair_of x ∷ named_pairs name xs) (named_pairs name xs)) ≡ cond b (x.value ∷ values_of name xs) (values_of name xs)
    go true = refl
    go false = refl

-- the values of a name that does not stand
pub values_none : (name : List ℕ) (xs : List Pair) → position (is_named name) xs ≡ None → values_of name xs ≡ []
values_none name [] e = refl
values_none name (x ∷ xs) e =
    let parts = none-cons (is_named name) x xs e in
    values_cons name x xs ∙ ap (λ b. cond b (x.value ∷ values_of name xs) (values_of name xs)) parts.0 ∙ values_none name xs parts.1

-- the first value, and those behind it
pub values_found : (name : List ℕ) (xs : List Pair) (i : ℕ) (d : Pair) → position (is_named name) xs ≡ Some i → values_of name xs ≡ (get_or xs i d).value ∷ values_of name (drop (i + 1) xs)
values_found name [] i d e = absurd (cc e)
values_found name (x ∷ xs) i d e = values_cons name x xs ∙ go (is_named name x) (some-cons (is_named name) x xs i e) (λ j f. values_found name xs j d f)
  where
    go : (b : Bool) → cond b (0 ≡ i) ((j : ℕ) × (position (is_named name) xs ≡ Some j) × (suc j ≡ i))
        → ((j : ℕ) → position (is_named name) xs ≡ Some j → values_of name xs ≡ (get_or xs j d).value ∷ values_of name (drop (j + 1) xs))
        → cond b (x.value ∷ values_of name xs) (values_of name xs) ≡ (get_or (x ∷ xs) i d).value ∷ values_of name (drop (i + 1) (x ∷ xs))
    go true at rest = subst (λ k. x.value ∷ values_of name xs ≡ (get_or (x ∷ xs) k d).value ∷ values_of name (drop (k + 1) (x ∷ xs))) at refl
    go false at rest =
        let one_more : suc at.0 + 1 ≡ suc (at.0 + 1) = omega arith in
        subst (λ k. values_of name xs ≡ (get_or (x ∷ xs) k d).value ∷ values_of name (drop (k + 1) (x ∷ xs))) at.2
        (rest at.0 at.1 ∙ ap (λ k. (get_or xs at.0 d).value ∷ values_of name (drop k (x ∷ xs))) (sym one_more))

-- no value stands before the first
pub values_from : (name : List ℕ) (xs : List Pair) (i : ℕ) → position (is_named name) xs ≡ Some i → values_of name (drop i xs) ≡ values_of name xs
values_from name [] i e = absurd (cc e)
values_from name (x ∷ xs) i e = go (is_named name x) refl (some-cons (is_named name) x xs i e) (λ j f. values_from name xs j f)
  where
    go : (b : Bool) → is_named name x ≡ b → cond b (0 ≡ i) ((j : ℕ) × (position (is_named name) xs ≡ Some j) × (suc j ≡ i))
        → ((j : ℕ) → position (is_named name) xs ≡ Some j → values_of name (drop j xs) ≡ values_of name xs)
        → values_of name (drop i (x ∷ xs)) ≡ values_of name (x ∷ xs)
    go true named at rest = subst (λ k. values_of name (drop k (x ∷ xs)) ≡ values_of name (x ∷ xs)) at refl
    go false named at rest =
        subst (λ k. values_of name (drop k (x ∷ xs)) ≡ values_of name (x ∷ xs)) at.2
        (rest at.0 at.1 ∙ sym (values_cons name x xs ∙ ap (λ b. cond b (x.value ∷ values_of name xs) (values_of name xs)) named))

-- where each name stands once, the one pair has the values
pub values_alone : (name : List ℕ) (xs : List Pair) (i : ℕ) → AreApart (map name_of xs) → position (is_named name) xs ≡ Some i → values_of name (take 1 (drop i xs)) ≡ values_of name xs
values_alone name [] i apart e = absurd (cc e)
values_alone name (x ∷ xs) i apart e = go (is_named name x) refl (some-cons (is_named name) x xs i e) (λ j f. values_alone name xs j apart.1 f)
  where
    go : (b : Bool) → is_named name x ≡ b → cond b (0 ≡ i) ((j : ℕ) × (position (is_named name) xs ≡ Some j) × (suc j ≡ i))
        → ((j : ℕ) → position (is_named name) xs ≡ Some j → values_of name (take 1 (drop j xs)) ≡ values_of name xs)
        → values_of name (take 1 (drop i (x ∷ xs))) ≡ values_of name (x ∷ xs)
    go true named at rest =
        let same : string_bytes x.name ≡ name = (bytes_eq-Decides (string_bytes x.name) name).0 named in
        let absent : position (is_named name) xs ≡ None = subst (λ n. position (is_named n) xs ≡ None) same (sym (position-map (λ n. same_text n (name_of x)) name_of xs) ∙ apart.0) in
        subst (λ k. values_of name (take 1 (drop k (x ∷ xs))) ≡ values_of name (x ∷ xs)) at
        (values_cons name x [] ∙ ap (λ vs. cond (is_named name x) (x.value ∷ vs) vs) (sym (values_none name xs absent)) ∙ sym (values_cons name x xs))
    go false named at rest =
        subst (λ k. values_of name (take 1 (drop k (x ∷ xs))) ≡ values_of name (x ∷ xs)) at.2
        (rest at.0 at.1 ∙ sym (values_cons name x xs ∙ ap (λ b. cond b (x.value ∷ values_of name xs) (values_of name xs)) named))

-- a value that is UTF-8 comes first
pub texts_first : (value text : List ℕ) (values : List (List ℕ)) → text_of value ≡ Some text → texts_in (value ∷ values) ≡ text ∷ texts_in values
texts_first value text values e = go (is_utf8 value) e
  where
    go : (b : Bool) → cond b (Some value) None ≡ Some text → cond b (value ∷ texts_in values) (texts_in values) ≡ text ∷ texts_in values
    go true e = let q : value ≡ text = cc e in ap (λ v. v ∷ texts_in values) q
    go false e = absurd (cc e)

-- another value is left out
pub texts_behind : (value : List ℕ) (values : List (List ℕ)) → text_of value ≡ None → texts_in (value ∷ values) ≡ texts_in values
texts_behind value values e = go (is_utf8 value) e
  where
    go : (b : Bool) → cond b (Some value) None ≡ None → cond b (value ∷ texts_in values) (texts_in values) ≡ texts_in values
    go true e = absurd (cc e)
    go false e = refl

-- lower case, once more
pub lower_twice : (name : List ℕ) → str_to_ascii_lowercase (str_to_ascii_lowercase name) ≡ str_to_ascii_lowercase name
lower_twice [] = refl
lower_twice (b ∷ name) = λ i. lowercase-lowercase b i ∷ lower_twice name i
