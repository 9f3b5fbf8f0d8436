-- Texts that are cut at the first `/`, `&`, `?` or `=`.
use Rattle.smithy_router.proofs.Common.{◌≡◌, refl, ap, sym, ◌∙◌, ◌&&◌, take, nat_eq, codes, ℕ, ◌+◌, ◌<◌, suc, arith, Bool, true, false, not, cond, ◌==◌, ◌||◌, List, [], ◌∷◌, length, Option, Some, None, MatchOption, lit<, Bor, slice_split, onto_first, position_or_len, before_first, after_first, starts_with, eqb-true, slice_split_first, IsSplitOnceResult, split_once_first, has_byte, Route, fits_target, CutsAt, CutsTarget}

split_none : (c : ℕ) (xs : List ℕ) → position_or_len (λ b. b == c) xs ≡ length xs → slice_split (λ b. b == c) xs ≡ xs ∷ []
split_none c [] e = refl
split_none c (x ∷ xs) e = go (x == c) e (λ e. split_none c xs e)
  where
    go : (b : Bool) → cond (not b) (1 + position_or_len (λ b. b == c) xs) 0 ≡ suc (length xs) → (position_or_len (λ b. b == c) xs ≡ length xs → slice_split (λ b. b == c) xs ≡ xs ∷ [])
        → cond b ([] ∷ slice_split (λ b. b == c) xs) (onto_first x (slice_split (λ b. b == c) xs)) ≡ (x ∷ xs) ∷ []
    go true e rest = absurd (omega (arith, e))
    go false e rest = rw (rest (omega (arith, e))) refl

-- where the parts stand, in the words of positions
cuts : (c : ℕ) (bs : List ℕ) (r : Option (Bor (List ℕ) × Bor (List ℕ)))
    → MatchOption r (position_or_len (λ b. b == c) bs ≡ length bs) (λ x. (position_or_len (λ b. b == c) bs < length bs) × (x.0.now ≡ before_first (λ b. b == c) bs) × (x.1.now ≡ after_first (λ b. b == c) bs)) → CutsAt c bs r
cuts c bs None e = split_none c bs e
cuts c bs (Some x) (l, before, after) = rw (before, after) (slice_split_first (λ b. b == c) bs 0 l)

pub cuts_at_slash : (bs : List ℕ) (r : Option (Bor (List ℕ) × Bor (List ℕ))) → IsSplitOnceResult 47 bs r → CutsAt 47 bs r
cuts_at_slash bs r h = cuts 47 bs r (split_once_first 47 bs r h (lit< tt))

pub cuts_at_ampersand : (bs : List ℕ) (r : Option (Bor (List ℕ) × Bor (List ℕ))) → IsSplitOnceResult 38 bs r → CutsAt 38 bs r
cuts_at_ampersand bs r h = cuts 38 bs r (split_once_first 38 bs r h (lit< tt))

has_none : (c : ℕ) (xs : List ℕ) → position_or_len (λ b. b == c) xs ≡ length xs → (has_byte c xs ≡ false) × (before_first (λ b. b == c) xs ≡ xs)
has_none c [] e = (refl, refl)
has_none c (x ∷ xs) e = go (x == c) e (λ e. has_none c xs e)
  where
    go : (b : Bool) → cond (not b) (1 + position_or_len (λ b. b == c) xs) 0 ≡ suc (length xs)
        → (position_or_len (λ b. b == c) xs ≡ length xs → (has_byte c xs ≡ false) × (before_first (λ b. b == c) xs ≡ xs))
        → ((b || has_byte c xs) ≡ false) × (take (cond (not b) (1 + position_or_len (λ b. b == c) xs) 0) (x ∷ xs) ≡ x ∷ xs)
    go true e rest = absurd (omega (arith, e))
    go false e rest =
        let later = rest (omega (arith, e)) in
        let same : 1 + position_or_len (λ b. b == c) xs ≡ suc (position_or_len (λ b. b == c) xs) = omega arith in
        (later.0, ap (λ k. take k (x ∷ xs)) same ∙ ap (λ t. x ∷ t) later.1)

has_some : (c : ℕ) (xs : List ℕ) → position_or_len (λ b. b == c) xs < length xs → has_byte c xs ≡ true
has_some c [] e = absurd (omega (arith, e))
has_some c (x ∷ xs) e = go (x == c) e (λ e. has_some c xs e)
  where
    go : (b : Bool) → cond (not b) (1 + position_or_len (λ b. b == c) xs) 0 < suc (length xs) → (position_or_len (λ b. b == c) xs < length xs → has_byte c xs ≡ true) → (b || has_byte c xs) ≡ true
    go true e rest = refl
    go false e rest = rest (omega (arith, e))

pub cuts_at_question : (bs : List ℕ) (r : Option (Bor (List ℕ) × Bor (List ℕ))) → IsSplitOnceResult 63 bs r → CutsTarget bs r
cuts_at_question bs r h = go r (split_once_first 63 bs r h (lit< tt))
  where
    go : (r : Option (Bor (List ℕ) × Bor (List ℕ)))
        → MatchOption r (position_or_len (λ b. b == 63) bs ≡ length bs) (λ x. (position_or_len (λ b. b == 63) bs < length bs) × (x.0.now ≡ before_first (λ b. b == 63) bs) × (x.1.now ≡ after_first (λ b. b == 63) bs)) → CutsTarget bs r
    go None e = has_none 63 bs e
    go (Some x) (l, before, after) = (has_some 63 bs l, before, after)

-- a target starts with `/` where its path does
pub path_starts : (target : List ℕ) → starts_with nat_eq (before_first (λ b. b == 63) target) (codes "/") ≡ starts_with nat_eq target (codes "/")
path_starts [] = refl
path_starts (b ∷ text) = go (b == 63) refl
  where
    go : (t : Bool) → (b == 63) ≡ t → starts_with nat_eq (take (cond (not t) (1 + position_or_len (λ x. x == 63) text) 0) (b ∷ text)) (codes "/") ≡ starts_with nat_eq (b ∷ text) (codes "/")
    go true e = rw (eqb-true b 63 e) refl
    go false e = let same : 1 + position_or_len (λ x. x == 63) text ≡ suc (position_or_len (λ x. x == 63) text) = omega arith in rw same refl

not_slash : (xs : List ℕ) → ((rest : List ℕ) → xs ≡ 47 ∷ rest → ⊥) → starts_with nat_eq xs (codes "/") ≡ false
not_slash [] none = refl
not_slash (b ∷ xs) none = go (47 == b) refl
  where
    go : (t : Bool) → (47 == b) ≡ t → (t && true) ≡ false
    go true e = absurd (none xs (ap (λ (c : ℕ). c ∷ xs) (sym (eqb-true 47 b e))))
    go false e = refl

-- a path without `/` first is that of a target without it
pub not_path : (target path : List ℕ) → path ≡ before_first (λ b. b == 63) target → ((rest : List ℕ) → path ≡ 47 ∷ rest → ⊥) → starts_with nat_eq target (codes "/") ≡ false
not_path target path e none = sym (path_starts target) ∙ ap (λ xs. starts_with nat_eq xs (codes "/")) (sym e) ∙ not_slash path none

-- a path with it is that of a target with it
pub is_path_of : (target path rest : List ℕ) → path ≡ before_first (λ b. b == 63) target → path ≡ 47 ∷ rest → starts_with nat_eq target (codes "/") ≡ true
is_path_of target path rest e same = sym (path_starts target) ∙ ap (λ xs. starts_with nat_eq xs (codes "/")) (sym e ∙ same)

-- a target without `/` first fits no route
pub fits_none : (r : Route) (target : List ℕ) → starts_with nat_eq target (codes "/") ≡ false → fits_target r target ≡ false
fits_none r target e = rw e refl
