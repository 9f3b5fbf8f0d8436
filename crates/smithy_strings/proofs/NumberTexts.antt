-- The texts of numbers, by a test of bytes.
use Rattle.std.proofs.Common.{◌≡◌, refl, sym, ◌∙◌, ap, ℕ, suc, ◌+◌, arith, Bool, true, false, not, cond, ◌&&◌, ◌||◌, ◌==◌, List, [], ◌∷◌, length, take, drop, if◌then◌else◌}
use Rattle.std.specs.List.{list_all, before_first, after_first, position_or_len}
use Rattle.std.proofs.lemmas.Bool.{and_parts, and_from, eqb-true}
use Rattle.std.proofs.lemmas.List.{take-append-drop}
use Rattle.std.proofs.lemmas.List.Folds.{list_all-append}
use Rattle.smithy_types.specs.BigNumbers.{is_digit, is_sign, unsigned, is_signed_digits, is_exponent_mark, is_exponent, is_mantissa, mantissa_of, exponent_of, is_big_decimal}

-- digits, signs, a point and the marks of an exponent pass the test
pub record PassesNumbers (p : ℕ → Bool) : Type 0 where
  pub digit : (b : ℕ) → is_digit b ≡ true → p b ≡ true
  pub plus : p 43 ≡ true
  pub hyphen : p 45 ≡ true
  pub point : p 46 ≡ true
  pub small_e : p 101 ≡ true
  pub great_e : p 69 ≡ true

-- what holds before and behind the first byte of a kind, and of that kind, holds of all
all_around : (p q : ℕ → Bool) (text : List ℕ) → ((b : ℕ) → q b ≡ true → p b ≡ true) → list_all p (before_first q text) ≡ true → list_all p (after_first q text) ≡ true → list_all p text ≡ true
all_around p q [] marks front back = refl
all_around p q (b ∷ text) marks front back = go (q b) refl (λ f g. all_around p q text marks f g) front back
  where
    go : (t : Bool) → q b ≡ t → (list_all p (before_first q text) ≡ true → list_all p (after_first q text) ≡ true → list_all p text ≡ true) → list_all p (take (cond (not t) (1 + position_or_len q text) 0) (b ∷ text)) ≡ true → list_all p (drop (cond (not t) (1 + position_or_len q text) 0 + 1) (b ∷ text)) ≡ true → (p b && list_all p text) ≡ true
    go true e rest f g = and_from (p b) (list_all p text) (marks b e) g
    go false e rest f g =
        let one : 1 + position_or_len q text ≡ suc (position_or_len q text) = omega arith in
        let two : 1 + position_or_len q text + 1 ≡ suc (position_or_len q text + 1) = omega arith in
        let parts = and_parts (p b) (list_all p (before_first q text)) (ap (λ n. list_all p (take n (b ∷ text))) (sym one) ∙ f) in
        and_from (p b) (list_all p text) parts.0 (rest parts.1 (ap (λ n. list_all p (drop n (b ∷ text))) (sym two) ∙ g))

module _ (p : ℕ → Bool) (passes : PassesNumbers p) where
  digits_pass : (text : List ℕ) → list_all is_digit text ≡ true → list_all p text ≡ true
  digits_pass [] e = refl
  digits_pass (b ∷ text) e = let parts = and_parts (is_digit b) (list_all is_digit text) e in and_from (p b) (list_all p text) (passes.digit b parts.0) (digits_pass text parts.1)

  either_passes : (b c d : ℕ) → p c ≡ true → p d ≡ true → ((b == c) || (b == d)) ≡ true → p b ≡ true
  either_passes b c d one other e = go (b == c) (b == d) refl refl e
    where
      go : (s t : Bool) → (b == c) ≡ s → (b == d) ≡ t → (s || t) ≡ true → p b ≡ true
      go true t es et h = ap p (eqb-true b c es) ∙ one
      go false true es et h = ap p (eqb-true b d et) ∙ other
      go false false es et h = absurd (cc h)

  unsigned_passes : (text : List ℕ) → list_all p (unsigned text) ≡ true → list_all p text ≡ true
  unsigned_passes [] e = refl
  unsigned_passes (b ∷ text) e = go (is_sign b) refl e
    where
      go : (t : Bool) → is_sign b ≡ t → list_all p (if t then text else b ∷ text) ≡ true → (p b && list_all p text) ≡ true
      go true es h = and_from (p b) (list_all p text) (either_passes b 43 45 passes.plus passes.hyphen es) h
      go false es h = h

  pub signed_passes : (text : List ℕ) → is_signed_digits text ≡ true → list_all p text ≡ true
  signed_passes text e = unsigned_passes text (digits_pass (unsigned text) (and_parts (not (length (unsigned text) == 0)) (list_all is_digit (unsigned text)) e).1)

  exponent_passes : (text : List ℕ) → is_exponent text ≡ true → list_all p text ≡ true
  exponent_passes [] e = refl
  exponent_passes (mark ∷ text) e =
      let parts = and_parts (is_exponent_mark mark) (is_signed_digits text) e in
      and_from (p mark) (list_all p text) (either_passes mark 101 69 passes.small_e passes.great_e parts.0) (signed_passes text parts.1)

  mantissa_passes : (text : List ℕ) → is_mantissa text ≡ true → list_all p text ≡ true
  mantissa_passes text e =
      let whole : List ℕ = before_first (λ b. b == 46) text in
      let part : List ℕ = after_first (λ b. b == 46) text in
      let two = and_parts (list_all is_digit whole && list_all is_digit part) (not (length whole + length part == 0)) e in
      let each = and_parts (list_all is_digit whole) (list_all is_digit part) two.0 in
      all_around p (λ b. b == 46) text (λ b h. ap p (eqb-true b 46 h) ∙ passes.point) (digits_pass whole each.0) (digits_pass part each.1)

  pub decimal_passes : (text : List ℕ) → is_big_decimal text ≡ true → list_all p text ≡ true
  decimal_passes text e =
      let parts = and_parts (is_mantissa (mantissa_of text)) (is_exponent (exponent_of text)) e in
      let n : ℕ = position_or_len is_exponent_mark (unsigned text) in
      let front : list_all p (take n (unsigned text)) ≡ true = mantissa_passes (mantissa_of text) parts.0 in
      let back : list_all p (drop n (unsigned text)) ≡ true = exponent_passes (exponent_of text) parts.1 in
      unsigned_passes text
      (ap (list_all p) (sym (take-append-drop n (unsigned text))) ∙ list_all-append p (take n (unsigned text)) (drop n (unsigned text))
      ∙ and_from (list_all p (take n (unsigned text))) (list_all p (drop n (unsigned text))) front back)
