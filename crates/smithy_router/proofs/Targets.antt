-- The target that has given segments and given pieces.
use Rattle.smithy_router.proofs.Common.{◌≡◌, ◌≢◌, refl, ◌∙◌, ap, ℕ, suc, ◌+◌, arith, Bool, true, false, not, cond, ◌==◌, ◌&&◌, ◌||◌, List, [], ◌∷◌, ◌++◌, take, drop, eq-eqb, ne_eqb, All, AllByRecursion, slice_split, onto_first, join_with_byte, before_first, after_first, position_or_len, append-nil, All-from_recursion, slice_split_none, slice_split_at, has_byte, is_question_mark, query_pieces, segments_of, fits_path, fits_query, Route, fits_target, HasNo}

-- a segment of a path
pub record IsClean (segment : List ℕ) : Type 0 where
  pub slash : HasNo 47 segment
  pub question : HasNo 63 segment

-- nothing for no piece, and else the pieces behind a `?`
abbrev pub query_text : List (List ℕ) → List ℕ
query_text [] = []
query_text (p ∷ ps) = 63 ∷ join_with_byte 38 (p ∷ ps)

-- the path of these segments and the query of these pieces
abbrev pub target_of : List (List ℕ) → List (List ℕ) → List ℕ
target_of segments pieces = (47 ∷ join_with_byte 47 segments) ++ query_text pieces

onto_some : (x : ℕ) (parts : List (List ℕ)) → onto_first x parts ≢ []
onto_some x [] e = cc e
onto_some x (part ∷ parts) e = cc e

pub split_some : (c : ℕ) (text : List ℕ) → slice_split (λ b. b == c) text ≢ []
split_some c [] e = cc e
split_some c (b ∷ text) e = go (b == c) e
  where
    go : (t : Bool) → cond t ([] ∷ slice_split (λ x. x == c) text) (onto_first b (slice_split (λ x. x == c) text)) ≢ []
    go true e = cc e
    go false e = onto_some b _ e

passes_none : (c : ℕ) (xs : List ℕ) → HasNo c xs → All (λ b. (b == c) ≡ false) xs
passes_none c xs none = All-from_recursion (λ b. (b == c) ≡ false) xs (go xs none)
  where
    go : (ys : List ℕ) → HasNo c ys → AllByRecursion (λ b. (b == c) ≡ false) ys
    go [] lacks = tt
    go (y ∷ ys) lacks = (ne_eqb y c lacks.0, go ys lacks.1)

-- texts without the byte, joined by it, are the parts
split-join : (c : ℕ) (text : List ℕ) (texts : List (List ℕ)) → AllByRecursion (HasNo c) (text ∷ texts) → slice_split (λ b. b == c) (join_with_byte c (text ∷ texts)) ≡ text ∷ texts
split-join c text [] none = slice_split_none (λ b. b == c) text (passes_none c text none.0)
split-join c text (next ∷ texts) none =
    slice_split_at (λ b. b == c) text c (join_with_byte c (next ∷ texts)) (passes_none c text none.0) (eq-eqb c c refl)
    ∙ ap (λ parts. text ∷ parts) (split-join c next texts none.1)

pub HasNo-append : (c : ℕ) (xs ys : List ℕ) → HasNo c xs → HasNo c ys → HasNo c (xs ++ ys)
HasNo-append c [] ys no_x no_y = no_y
HasNo-append c (b ∷ xs) ys no_x no_y = (no_x.0, HasNo-append c xs ys no_x.1 no_y)

HasNo-join : (c d : ℕ) (texts : List (List ℕ)) → d ≢ c → AllByRecursion (HasNo c) texts → HasNo c (join_with_byte d texts)
HasNo-join c d [] ne none = tt
HasNo-join c d (text ∷ []) ne none = none.0
HasNo-join c d (text ∷ next ∷ texts) ne none = HasNo-append c text (d ∷ join_with_byte d (next ∷ texts)) none.0 (ne, HasNo-join c d (next ∷ texts) ne none.1)

-- what stands before the first c
before_none : (c : ℕ) (xs : List ℕ) → HasNo c xs → before_first (λ b. b == c) xs ≡ xs
before_none c [] none = refl
before_none c (b ∷ xs) none =
    let same : 1 + position_or_len (λ x. x == c) xs ≡ suc (position_or_len (λ x. x == c) xs) = omega arith in
    ap (λ t. take (cond (not t) (1 + position_or_len (λ x. x == c) xs) 0) (b ∷ xs)) (ne_eqb b c none.0)
    ∙ ap (λ k. take k (b ∷ xs)) same ∙ ap (λ t. b ∷ t) (before_none c xs none.1)

before_cut : (c : ℕ) (xs rest : List ℕ) → HasNo c xs → before_first (λ b. b == c) (xs ++ c ∷ rest) ≡ xs
before_cut c [] rest none = ap (λ t. take (cond (not t) (1 + position_or_len (λ x. x == c) rest) 0) (c ∷ rest)) (eq-eqb c c refl)
before_cut c (b ∷ xs) rest none =
    let same : 1 + position_or_len (λ x. x == c) (xs ++ c ∷ rest) ≡ suc (position_or_len (λ x. x == c) (xs ++ c ∷ rest)) = omega arith in
    ap (λ t. take (cond (not t) (1 + position_or_len (λ x. x == c) (xs ++ c ∷ rest)) 0) (b ∷ xs ++ c ∷ rest)) (ne_eqb b c none.0)
    ∙ ap (λ k. take k (b ∷ xs ++ c ∷ rest)) same ∙ ap (λ t. b ∷ t) (before_cut c xs rest none.1)

after_cut : (c : ℕ) (xs rest : List ℕ) → HasNo c xs → after_first (λ b. b == c) (xs ++ c ∷ rest) ≡ rest
after_cut c [] rest none = ap (λ t. drop (cond (not t) (1 + position_or_len (λ x. x == c) rest) 0 + 1) (c ∷ rest)) (eq-eqb c c refl)
after_cut c (b ∷ xs) rest none =
    let same : 1 + position_or_len (λ x. x == c) (xs ++ c ∷ rest) + 1 ≡ suc (position_or_len (λ x. x == c) (xs ++ c ∷ rest) + 1) = omega arith in
    ap (λ t. drop (cond (not t) (1 + position_or_len (λ x. x == c) (xs ++ c ∷ rest)) 0 + 1) (b ∷ xs ++ c ∷ rest)) (ne_eqb b c none.0)
    ∙ ap (λ k. drop k (b ∷ xs ++ c ∷ rest)) same ∙ after_cut c xs rest none.1

has_none : (c : ℕ) (xs : List ℕ) → HasNo c xs → has_byte c xs ≡ false
has_none c [] none = refl
has_none c (b ∷ xs) none = ap (λ t. t || has_byte c xs) (ne_eqb b c none.0) ∙ has_none c xs none.1

has_cut : (c : ℕ) (xs rest : List ℕ) → has_byte c (xs ++ c ∷ rest) ≡ true
has_cut c [] rest = ap (λ t. t || has_byte c rest) (eq-eqb c c refl)
has_cut c (x ∷ xs) rest = go (x == c) (has_cut c xs rest)
  where
    go : (t : Bool) → has_byte c (xs ++ c ∷ rest) ≡ true → (t || has_byte c (xs ++ c ∷ rest)) ≡ true
    go true h = refl
    go false h = h

slashes : (segments : List (List ℕ)) → AllByRecursion IsClean segments → AllByRecursion (HasNo 47) segments
slashes [] clean = tt
slashes (s ∷ ss) clean = (clean.0.slash, slashes ss clean.1)

questions : (segments : List (List ℕ)) → AllByRecursion IsClean segments → AllByRecursion (HasNo 63) segments
questions [] clean = tt
questions (s ∷ ss) clean = (clean.0.question, questions ss clean.1)

path_clean : (segments : List (List ℕ)) → AllByRecursion IsClean segments → HasNo 63 (47 ∷ join_with_byte 47 segments)
path_clean segments clean = ((λ h. absurd (omega arith)), HasNo-join 63 47 segments (λ h. absurd (omega arith)) (questions segments clean))

-- the path of the target
path_of_target : (segments pieces : List (List ℕ)) → AllByRecursion IsClean segments → before_first is_question_mark (target_of segments pieces) ≡ 47 ∷ join_with_byte 47 segments
path_of_target segments [] clean = ap (before_first (λ b. b == 63)) (append-nil (47 ∷ join_with_byte 47 segments)) ∙ before_none 63 (47 ∷ join_with_byte 47 segments) (path_clean segments clean)
path_of_target segments (p ∷ ps) clean = before_cut 63 (47 ∷ join_with_byte 47 segments) (join_with_byte 38 (p ∷ ps)) (path_clean segments clean)

-- its segments are those given
pub segments_of_target : (s : List ℕ) (ss pieces : List (List ℕ)) → AllByRecursion IsClean (s ∷ ss) → segments_of (before_first is_question_mark (target_of (s ∷ ss) pieces)) ≡ s ∷ ss
segments_of_target s ss pieces clean = ap segments_of (path_of_target (s ∷ ss) pieces clean) ∙ split-join 47 s ss (slashes (s ∷ ss) clean)

-- its pieces are those given
pub pieces_of_target : (segments pieces : List (List ℕ)) → AllByRecursion IsClean segments → AllByRecursion (HasNo 38) pieces → query_pieces (target_of segments pieces) ≡ pieces
pieces_of_target segments [] clean none =
    ap query_pieces (append-nil (47 ∷ join_with_byte 47 segments))
    ∙ ap (λ t. cond t (slice_split (λ b. b == 38) (after_first is_question_mark (47 ∷ join_with_byte 47 segments))) []) (has_none 63 (47 ∷ join_with_byte 47 segments) (path_clean segments clean))
pieces_of_target segments (p ∷ ps) clean none =
    ap (λ t. cond t (slice_split (λ b. b == 38) (after_first is_question_mark (target_of segments (p ∷ ps)))) []) (has_cut 63 (47 ∷ join_with_byte 47 segments) (join_with_byte 38 (p ∷ ps)))
    ∙ ap (slice_split (λ b. b == 38)) (after_cut 63 (47 ∷ join_with_byte 47 segments) (join_with_byte 38 (p ∷ ps)) (path_clean segments clean))
    ∙ split-join 38 p ps none

-- a route matches the target exactly where its segments and its pieces fit
pub fits_target_of : (r : Route) (segments pieces : List (List ℕ)) → segments ≢ [] → AllByRecursion IsClean segments → AllByRecursion (HasNo 38) pieces
    → fits_target r (target_of segments pieces) ≡ (fits_path r.is_greedy r.segments segments && fits_query r.query pieces)
fits_target_of r [] pieces some clean none = absurd (some refl)
fits_target_of r (s ∷ ss) pieces some clean none =
    ap (λ xs. fits_path r.is_greedy r.segments xs && fits_query r.query (query_pieces (target_of (s ∷ ss) pieces))) (segments_of_target s ss pieces clean)
    ∙ ap (λ xs. fits_path r.is_greedy r.segments (s ∷ ss) && fits_query r.query xs) (pieces_of_target (s ∷ ss) pieces clean none)
