-- A name cut at the first byte that passes a test, and joined again.
use Rattle.std.proofs.Common.{◌≡◌, refl, sym, ap, ◌∙◌, ℕ, suc, ◌+◌, ◌<◌, Bool, true, false, not, ◌||◌, ◌==◌, List, [], ◌∷◌, ◌++◌, length, cond, get_or, arith, Option, Some, None, MatchOption, Bor, eqb-true, eq-eqb}
use Rattle.std.specs.List.{list_any, position_or_len, before_first, after_first}
use Rattle.std.proofs.lemmas.List.Sums.{split_at_first, passes_at_first}
use Rattle.std.proofs.lemmas.Str.Pattern.{split_once_first, IsSplitOnceResult}
use Rattle.smithy_ids.specs.ShapeIds.{CutsAt}

-- no byte passes where the first place that passes is the end
none_passes : (p : ℕ → Bool) (xs : List ℕ) → position_or_len p xs ≡ length xs → list_any p xs ≡ false
none_passes p [] e = refl
none_passes p (x ∷ xs) e = go (p x) refl (none_passes p xs)
  where
    go : (b : Bool) → p x ≡ b → (position_or_len p xs ≡ length xs → list_any p xs ≡ false) → list_any p (x ∷ xs) ≡ false
    go true q rest = absurd (let h : 0 ≡ length (x ∷ xs) = sym (ap (λ t. cond (not t) (1 + position_or_len p xs) 0) q) ∙ e in omega arith)
    go false q rest =
        let h : 1 + position_or_len p xs ≡ length (x ∷ xs) = sym (ap (λ t. cond (not t) (1 + position_or_len p xs) 0) q) ∙ e in
        let same : position_or_len p xs ≡ length xs = omega arith in
        rw q (rest same)

-- some byte passes where the first place that passes is before the end
some_passes : (p : ℕ → Bool) (xs : List ℕ) → position_or_len p xs < length xs → list_any p xs ≡ true
some_passes p [] h = absurd (omega arith)
some_passes p (x ∷ xs) h = go (p x) refl (some_passes p xs)
  where
    go : (b : Bool) → p x ≡ b → (position_or_len p xs < length xs → list_any p xs ≡ true) → list_any p (x ∷ xs) ≡ true
    go true q rest = rw q refl
    go false q rest =
        let e : position_or_len p (x ∷ xs) ≡ 1 + position_or_len p xs = ap (λ t. cond (not t) (1 + position_or_len p xs) 0) q in
        let below : position_or_len p xs < length xs = omega arith in
        rw q (rest below)

-- the first that passes comes later where the head fails
before_first-cons : (p : ℕ → Bool) (x : ℕ) (xs : List ℕ) → p x ≡ false → before_first p (x ∷ xs) ≡ x ∷ before_first p xs
before_first-cons p x xs q = let one : 1 + position_or_len p xs ≡ suc (position_or_len p xs) = omega arith in rw (q, one) refl

after_first-cons : (p : ℕ → Bool) (x : ℕ) (xs : List ℕ) → p x ≡ false → after_first p (x ∷ xs) ≡ after_first p xs
after_first-cons p x xs q = let one : 1 + position_or_len p xs + 1 ≡ suc (position_or_len p xs + 1) = omega arith in rw (q, one) refl

-- no byte before the first that passes passes
before_first-lacks : (p : ℕ → Bool) (xs : List ℕ) → list_any p (before_first p xs) ≡ false
before_first-lacks p [] = refl
before_first-lacks p (x ∷ xs) = go (p x) refl (before_first-lacks p xs)
  where
    go : (b : Bool) → p x ≡ b → list_any p (before_first p xs) ≡ false → list_any p (before_first p (x ∷ xs)) ≡ false
    go true q rest = rw q refl
    go false q rest = rw (before_first-cons p x xs q, q) rest

-- all stands before the first that passes where none does
pub before_first-none : (p : ℕ → Bool) (xs : List ℕ) → list_any p xs ≡ false → before_first p xs ≡ xs
before_first-none p [] e = refl
before_first-none p (x ∷ xs) e = go (p x) refl e (before_first-none p xs)
  where
    go : (b : Bool) → p x ≡ b → (b || list_any p xs) ≡ false → (list_any p xs ≡ false → before_first p xs ≡ xs) → before_first p (x ∷ xs) ≡ x ∷ xs
    go true q lacks rest = absurd (cc lacks)
    go false q lacks rest = before_first-cons p x xs q ∙ ap (λ (t : List ℕ). x ∷ t) (rest lacks)

-- what `split_once` gives at an ASCII character
pub cuts_at : (c : ℕ) (bs : List ℕ) (r : Option (Bor (List ℕ) × Bor (List ℕ))) → IsSplitOnceResult c bs r → c < 128 → CutsAt c bs r
cuts_at c bs r h small = go r (split_once_first c bs r h small)
  where
    go : (r : Option (Bor (List ℕ) × Bor (List ℕ)))
        → MatchOption r (position_or_len (λ b. b == c) bs ≡ length bs) (λ x. (position_or_len (λ b. b == c) bs < length bs) × (x.0.now ≡ before_first (λ b. b == c) bs) × (x.1.now ≡ after_first (λ b. b == c) bs)) → CutsAt c bs r
    go None e = none_passes (λ b. b == c) bs e
    go (Some x) (l, before, after) = record {
      has = some_passes (λ b. b == c) bs l;
      before = before;
      after = after;
      lacks = rw before (before_first-lacks (λ b. b == c) bs);
      spelled = rw (before, after) (split_at_first (λ b. b == c) bs 0 l ∙ ap (λ (t : ℕ). before_first (λ b. b == c) bs ++ t ∷ after_first (λ b. b == c) bs) (eqb-true (get_or bs (position_or_len (λ b. b == c) bs) 0) c (passes_at_first (λ b. b == c) bs 0 l)));
    }

-- what stands round the byte, where none stands before it
pub before_first-joined : (c : ℕ) (xs ys : List ℕ) → list_any (λ b. b == c) xs ≡ false → before_first (λ b. b == c) (xs ++ c ∷ ys) ≡ xs
before_first-joined c [] ys e = rw (eq-eqb c c refl) refl
before_first-joined c (x ∷ xs) ys e = go (x == c) refl e (before_first-joined c xs ys)
  where
    go : (b : Bool) → (x == c) ≡ b → (b || list_any (λ b. b == c) xs) ≡ false → (list_any (λ b. b == c) xs ≡ false → before_first (λ b. b == c) (xs ++ c ∷ ys) ≡ xs) → before_first (λ b. b == c) (x ∷ (xs ++ c ∷ ys)) ≡ x ∷ xs
    go true q lacks rest = absurd (cc lacks)
    go false q lacks rest = before_first-cons (λ b. b == c) x (xs ++ c ∷ ys) q ∙ ap (λ (t : List ℕ). x ∷ t) (rest lacks)

pub after_first-joined : (c : ℕ) (xs ys : List ℕ) → list_any (λ b. b == c) xs ≡ false → after_first (λ b. b == c) (xs ++ c ∷ ys) ≡ ys
after_first-joined c [] ys e = rw (eq-eqb c c refl) refl
after_first-joined c (x ∷ xs) ys e = go (x == c) refl e (after_first-joined c xs ys)
  where
    go : (b : Bool) → (x == c) ≡ b → (b || list_any (λ b. b == c) xs) ≡ false → (list_any (λ b. b == c) xs ≡ false → after_first (λ b. b == c) (xs ++ c ∷ ys) ≡ ys) → after_first (λ b. b == c) (x ∷ (xs ++ c ∷ ys)) ≡ ys
    go true q lacks rest = absurd (cc lacks)
    go false q lacks rest = after_first-cons (λ b. b == c) x (xs ++ c ∷ ys) q ∙ rest lacks
