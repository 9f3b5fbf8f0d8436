-- The pieces of the query give the texts at each name.
use Rattle.smithy_unambiguity.proofs.Common.{◌≡◌, ◌≢◌, refl, sym, ◌∙◌, ap, ℕ, suc, ◌+◌, arith, Bool, true, false, not, cond, ◌==◌, ◌||◌, List, [], ◌∷◌, ◌++◌, map, filter, eq-eqb, ne_eqb, codes, drop, AllByRecursion, slice_split, onto_first, join_with_byte, after_first, position_or_len, append_assoc, append-nil, append_cancel_left, map-append, same_text, has_byte, query_pieces, values_at, named_piece, escape, AreBytes, escape-injective, pair_text, with_query, same_text_self, both_ways, list_any-append, or_right, after_first-joined, cond_both, subst, length}
use Rattle.std.specs.Cmp.Lexicographic.{same_text as same_from_test}
use Rattle.std.proofs.lemmas.List.Elements.{filter-append}
use Rattle.std.proofs.lemmas.List.Splits.{length-slice_split}
use Rattle.smithy_unambiguity.proofs.Cuts.{HasNo, HasNo-append, before, before-cut, before_first-before}
use Rattle.smithy_unambiguity.proofs.Lists.{all_apply}
use Rattle.smithy_unambiguity.proofs.Reserved.{ampersand, equals, HasNo-escape}

onto-append : (x : ℕ) (parts tail : List (List ℕ)) → parts ≢ [] → onto_first x (parts ++ tail) ≡ onto_first x parts ++ tail
onto-append x [] tail some = absurd (some refl)
onto-append x (part ∷ parts) tail some = refl

split_some : (c : ℕ) (text : List ℕ) → slice_split (λ b. b == c) text ≢ []
split_some c text e =
    let count = length-slice_split (λ b. b == c) text in
    let none : length (slice_split (λ b. b == c) text) ≡ 0 = ap length e in
    omega (arith, count, none)

-- the parts of two texts with the byte between them
split-append : (c : ℕ) (xs ys : List ℕ) → slice_split (λ b. b == c) (xs ++ c ∷ ys) ≡ slice_split (λ b. b == c) xs ++ slice_split (λ b. b == c) ys
split-append c [] ys = ap (λ t. cond t ([] ∷ slice_split (λ b. b == c) ys) (onto_first c (slice_split (λ b. b == c) ys))) (eq-eqb c c refl)
split-append c (x ∷ xs) ys = go (x == c) (split-append c xs ys)
  where
    tail : List (List ℕ)
    tail = slice_split (λ b. b == c) ys

    parts : List (List ℕ)
    parts = slice_split (λ b. b == c) xs

    go : (t : Bool) → slice_split (λ b. b == c) (xs ++ c ∷ ys) ≡ parts ++ tail
        → cond t ([] ∷ slice_split (λ b. b == c) (xs ++ c ∷ ys)) (onto_first x (slice_split (λ b. b == c) (xs ++ c ∷ ys))) ≡ cond t ([] ∷ parts) (onto_first x parts) ++ tail
    go true rest = ap (λ r. [] ∷ r) rest
    go false rest = ap (onto_first x) rest ∙ onto-append x parts tail (split_some c xs)

split_none : (c : ℕ) (xs : List ℕ) → HasNo c xs → slice_split (λ b. b == c) xs ≡ xs ∷ []
split_none c [] none = refl
split_none c (x ∷ xs) none =
    ap (λ t. cond t ([] ∷ slice_split (λ b. b == c) xs) (onto_first x (slice_split (λ b. b == c) xs))) (ne_eqb x c none.0) ∙ ap (onto_first x) (split_none c xs none.1)

-- texts without the byte, joined by it, are the parts
split-join : (c : ℕ) (text : List ℕ) (texts : List (List ℕ)) → AllByRecursion (HasNo c) (text ∷ texts) → slice_split (λ b. b == c) (join_with_byte c (text ∷ texts)) ≡ text ∷ texts
split-join c text [] none = split_none c text none.0
split-join c text (next ∷ texts) none = split-append c text (join_with_byte c (next ∷ texts)) ∙ (λ i. split_none c text none.0 i ++ split-join c next texts none.1 i)

HasNo-pair_text : (p : List ℕ × List ℕ) → HasNo 38 (pair_text p)
HasNo-pair_text p = HasNo-append 38 _ (escape p.1) (HasNo-append 38 (escape p.0) (61 ∷ []) (HasNo-escape 38 ampersand p.0) ((λ h. absurd (omega arith)), tt)) (HasNo-escape 38 ampersand p.1)

HasNo-pairs : (ps : List (List ℕ × List ℕ)) → AllByRecursion (HasNo 38) (map pair_text ps)
HasNo-pairs [] = tt
HasNo-pairs (p ∷ ps) = (HasNo-pair_text p, HasNo-pairs ps)

-- what is behind the first `?`, by recursion
abbrev pub after : List ℕ → List ℕ
after [] = []
after (b ∷ text) = cond (b == 63) text (after text)

pub after_first-after : (xs : List ℕ) → after_first (λ b. b == 63) xs ≡ after xs
after_first-after [] = refl
after_first-after (b ∷ xs) = go (b == 63) (after_first-after xs)
  where
    go : (t : Bool) → after_first (λ x. x == 63) xs ≡ after xs → drop (cond (not t) (1 + position_or_len (λ x. x == 63) xs) 0 + 1) (b ∷ xs) ≡ cond t xs (after xs)
    go true rest = refl
    go false rest = let same : 1 + position_or_len (λ x. x == 63) xs + 1 ≡ suc (position_or_len (λ x. x == 63) xs + 1) = omega arith in ap (λ n. drop n (b ∷ xs)) same ∙ rest

has-append : (xs ys : List ℕ) → has_byte 63 (xs ++ 63 ∷ ys) ≡ true
has-append xs ys = list_any-append (λ b. b == 63) xs (63 ∷ ys) ∙ or_right (has_byte 63 xs) (has_byte 63 (63 ∷ ys)) refl

pub after-append : (xs ys : List ℕ) → has_byte 63 xs ≡ true → after (xs ++ ys) ≡ after xs ++ ys
after-append [] ys has = absurd (cc has)
after-append (x ∷ xs) ys has = go (x == 63) (after-append xs ys) has
  where
    go : (t : Bool) → (has_byte 63 xs ≡ true → after (xs ++ ys) ≡ after xs ++ ys) → (t || has_byte 63 xs) ≡ true → cond t (xs ++ ys) (after (xs ++ ys)) ≡ cond t xs (after xs) ++ ys
    go true rest h = refl
    go false rest h = rest h

pub after-cut : (xs ys : List ℕ) → has_byte 63 xs ≡ false → after (xs ++ 63 ∷ ys) ≡ ys
after-cut xs ys none = sym (after_first-after (xs ++ 63 ∷ ys)) ∙ after_first-joined 63 xs ys none

has-more : (xs ys : List ℕ) → has_byte 63 xs ≡ true → has_byte 63 (xs ++ ys) ≡ true
has-more xs ys has = list_any-append (λ b. b == 63) xs ys ∙ ap (λ t. t || has_byte 63 ys) has

-- the pieces of a target with and without a `?`
pieces_with : (target rest : List ℕ) → has_byte 63 target ≡ true → after target ≡ rest → query_pieces target ≡ slice_split (λ b. b == 38) rest
pieces_with target rest has e =
    ap (λ t. cond t (slice_split (λ b. b == 38) (after_first (λ b. b == 63) target)) []) has ∙ ap (slice_split (λ b. b == 38)) (after_first-after target ∙ e)

pieces_without : (target : List ℕ) → has_byte 63 target ≡ false → query_pieces target ≡ []
pieces_without target none = ap (λ t. cond t (slice_split (λ b. b == 38) (after_first (λ b. b == 63) target)) []) none

-- the pieces of a target are those of the path and one for each pair
pub pieces_of_query : (path : List ℕ) (ps : List (List ℕ × List ℕ)) → query_pieces (with_query path ps) ≡ query_pieces path ++ map pair_text ps
pieces_of_query path [] = sym (append-nil (query_pieces path))
pieces_of_query path (p ∷ ps) = go (has_byte 63 path) refl
  where
    joined : List ℕ
    joined = join_with_byte 38 (map pair_text (p ∷ ps))

    go : (t : Bool) → has_byte 63 path ≡ t → query_pieces (path ++ cond t (codes "&") (codes "?") ++ joined) ≡ query_pieces path ++ map pair_text (p ∷ ps)
    go true e =
        let regroup = append_assoc path (38 ∷ []) joined in
        ap query_pieces regroup
        ∙ pieces_with (path ++ 38 ∷ joined) (after path ++ 38 ∷ joined) (has-more path (38 ∷ joined) e) (after-append path (38 ∷ joined) e)
        ∙ split-append 38 (after path) joined
        ∙ (λ i. sym (pieces_with path (after path) e refl) i ++ split-join 38 (pair_text p) (map pair_text ps) (HasNo-pairs (p ∷ ps)) i)
    go false e =
        let regroup = append_assoc path (63 ∷ []) joined in
        ap query_pieces regroup
        ∙ pieces_with (path ++ 63 ∷ joined) joined (has-append path joined) (after-cut path joined e)
        ∙ split-join 38 (pair_text p) (map pair_text ps) (HasNo-pairs (p ∷ ps))
        ∙ ap (λ xs. xs ++ map pair_text (p ∷ ps)) (sym (pieces_without path e))

-- the values at a name behind a pair that has it or not
abbrev pub onto : Bool → List ℕ × List ℕ → List (List ℕ) → List (List ℕ)
onto t p xs = cond t (p.1 ∷ xs) xs

pub values_at-cons : (name : List ℕ) (p : List ℕ × List ℕ) (ps : List (List ℕ × List ℕ)) → values_at name (p ∷ ps) ≡ onto (same_text p.0 name) p (values_at name ps)
values_at-cons name p ps = go (same_text p.0 name)
  where
    go : (t : Bool) → map (λ (q : List ℕ × List ℕ). q.1) (cond t (p ∷ filter (λ (q : List ℕ × List ℕ). same_text q.0 name) ps) (filter (λ (q : List ℕ × List ℕ). same_text q.0 name) ps)) ≡ onto t p (values_at name ps)
    go true = refl
    go false = refl

-- a pair's piece has the escaped name
pub name_of_pair : (p : List ℕ × List ℕ) → named_piece (pair_text p) ≡ (escape p.0, pair_text p)
name_of_pair p =
    let name = before_first-before 61 (pair_text p) ∙ ap (before 61) (append_assoc (escape p.0) (61 ∷ []) (escape p.1)) ∙ before-cut 61 (escape p.0) (escape p.1) (HasNo-escape 61 equals p.0) in
    λ i. (name i, pair_text p)

-- texts that are one together are tested alike
pub same_tests : (a b c d : List ℕ) → (a ≡ b → c ≡ d) → (c ≡ d → a ≡ b) → same_text a b ≡ same_text c d
same_tests a b c d f g = both_ways (same_text a b) (same_text c d) (λ e. told c d (f (same_from_test a b (sym e)))) (λ e. told a b (g (same_from_test c d (sym e))))
  where
    told : (x y : List ℕ) → x ≡ y → same_text x y ≡ true
    told x y e = ap (same_text x) (sym e) ∙ same_text_self x

-- names are the same where their escapes are
same_escape : (a b : List ℕ) → AreBytes a → AreBytes b → same_text (escape a) (escape b) ≡ same_text a b
same_escape a b bytes_a bytes_b = same_tests (escape a) (escape b) a b (escape-injective a b bytes_a bytes_b) (ap escape)

-- of the pairs' pieces those with a name are those of the pairs with that name
pub pieces_of_pairs : (name : List ℕ) (ps : List (List ℕ × List ℕ)) → AreBytes name → AllByRecursion (λ p. AreBytes p.0) ps
    → values_at (escape name) (map named_piece (map pair_text ps)) ≡ map (λ t. pair_text (name, t)) (values_at name ps)
pieces_of_pairs name [] bytes all = refl
pieces_of_pairs name (p ∷ ps) bytes all =
    ap (λ q. values_at (escape name) (q ∷ map named_piece (map pair_text ps))) (name_of_pair p)
    ∙ ap (λ t. map (λ q. q.1) (cond t ((escape p.0, pair_text p) ∷ filter (λ q. same_text q.0 (escape name)) (map named_piece (map pair_text ps))) (filter (λ q. same_text q.0 (escape name)) (map named_piece (map pair_text ps))))) (same_escape p.0 name all.0 bytes)
    ∙ go (same_text p.0 name) refl (pieces_of_pairs name ps bytes all.1)
  where
    go : (t : Bool) → same_text p.0 name ≡ t → values_at (escape name) (map named_piece (map pair_text ps)) ≡ map (λ x. pair_text (name, x)) (values_at name ps)
        → map (λ q. q.1) (cond t ((escape p.0, pair_text p) ∷ filter (λ q. same_text q.0 (escape name)) (map named_piece (map pair_text ps))) (filter (λ q. same_text q.0 (escape name)) (map named_piece (map pair_text ps))))
        ≡ map (λ x. pair_text (name, x)) (map (λ q. q.1) (cond t (p ∷ filter (λ q. same_text q.0 name) ps) (filter (λ q. same_text q.0 name) ps)))
    go true e rest = λ i. pair_text (same_from_test p.0 name (sym e) i, p.1) ∷ rest i
    go false e rest = rest

pub values_at-append : (name : List ℕ) (ps qs : List (List ℕ × List ℕ)) → values_at name (ps ++ qs) ≡ values_at name ps ++ values_at name qs
values_at-append name ps qs = ap (map (λ p. p.1)) (filter-append (λ p. same_text p.0 name) ps qs) ∙ map-append (λ p. p.1) (filter (λ p. same_text p.0 name) ps) (filter (λ p. same_text p.0 name) qs)

-- the pieces with a name are those of the path and those of the pairs with that name
pub pieces_at : (path name : List ℕ) (ps : List (List ℕ × List ℕ)) → AreBytes name → AllByRecursion (λ p. AreBytes p.0) ps
    → values_at (escape name) (map named_piece (query_pieces (with_query path ps)))
    ≡ values_at (escape name) (map named_piece (query_pieces path)) ++ map (λ t. pair_text (name, t)) (values_at name ps)
pieces_at path name ps bytes all =
    ap (λ xs. values_at (escape name) (map named_piece xs)) (pieces_of_query path ps)
    ∙ ap (values_at (escape name)) (map-append named_piece (query_pieces path) (map pair_text ps))
    ∙ values_at-append (escape name) (map named_piece (query_pieces path)) (map named_piece (map pair_text ps))
    ∙ ap (λ xs. values_at (escape name) (map named_piece (query_pieces path)) ++ xs) (pieces_of_pairs name ps bytes all)

-- pieces under one name give the texts
texts_told : (name : List ℕ) (ts us : List (List ℕ)) → AllByRecursion AreBytes ts → AllByRecursion AreBytes us → map (λ t. pair_text (name, t)) ts ≡ map (λ t. pair_text (name, t)) us → ts ≡ us
texts_told name [] [] bytes_t bytes_u e = refl
texts_told name [] (u ∷ us) bytes_t bytes_u e = absurd (cc e)
texts_told name (t ∷ ts) [] bytes_t bytes_u e = absurd (cc e)
texts_told name (t ∷ ts) (u ∷ us) bytes_t bytes_u e =
    let heads : pair_text (name, t) ≡ pair_text (name, u) = cc e in
    let tails : map (λ x. pair_text (name, x)) ts ≡ map (λ x. pair_text (name, x)) us = cc e in
    let text = escape-injective t u bytes_t.0 bytes_u.0 (append_cancel_left (escape name ++ 61 ∷ []) (escape t) (escape u) heads) in
    λ i. text i ∷ texts_told name ts us bytes_t.1 bytes_u.1 tails i

names_of : (ps : List (List ℕ × List ℕ)) → AllByRecursion (λ p. AreBytes p.0 × AreBytes p.1) ps → AllByRecursion (λ p. AreBytes p.0) ps
names_of ps all = all_apply (λ p. AreBytes p.0 × AreBytes p.1) (λ p. AreBytes p.0) ps (λ p bytes. bytes.0) all

bytes_at : (name : List ℕ) (ps : List (List ℕ × List ℕ)) → AllByRecursion (λ p. AreBytes p.0 × AreBytes p.1) ps → AllByRecursion AreBytes (values_at name ps)
bytes_at name [] all = tt
bytes_at name (p ∷ ps) all =
    let rest = bytes_at name ps all.1 in
    subst (AllByRecursion AreBytes) (sym (values_at-cons name p ps)) (cond_both (same_text p.0 name) (p.1 ∷ values_at name ps) (values_at name ps) (AllByRecursion AreBytes) (λ e. (all.0.1, rest)) (λ e. rest))

-- so equal queries over one path have the same texts at each name
pub query_tells_texts : (path other name : List ℕ) (ps qs : List (List ℕ × List ℕ)) → AreBytes name
    → AllByRecursion (λ p. AreBytes p.0 × AreBytes p.1) ps → AllByRecursion (λ p. AreBytes p.0 × AreBytes p.1) qs → query_pieces path ≡ query_pieces other
    → values_at (escape name) (map named_piece (query_pieces (with_query path ps))) ≡ values_at (escape name) (map named_piece (query_pieces (with_query other qs)))
    → values_at name ps ≡ values_at name qs
query_tells_texts path other name ps qs bytes all_p all_q same e =
    let left = pieces_at path name ps bytes (names_of ps all_p) in
    let right = pieces_at other name qs bytes (names_of qs all_q) in
    let front : values_at (escape name) (map named_piece (query_pieces other)) ≡ values_at (escape name) (map named_piece (query_pieces path)) = ap (λ xs. values_at (escape name) (map named_piece xs)) (sym same) in
    let joined = sym left ∙ e ∙ right ∙ ap (λ xs. xs ++ map (λ t. pair_text (name, t)) (values_at name qs)) front in
    texts_told name (values_at name ps) (values_at name qs) (bytes_at name ps all_p) (bytes_at name qs all_q)
    (append_cancel_left (values_at (escape name) (map named_piece (query_pieces path))) _ _ joined)
