-- Numbers that are read digit by digit.
use Rattle.std.proofs.Common.{◌≡◌, refl, ap, ◌∙◌, ℕ, ◌+◌, ◌*◌, ◌<◌, ◌≤◌, ◌==◌, ◌≢◌, suc, take, Bool, true, false, List, [], ◌∷◌, ◌++◌, length, drop, get_or, add-zero, arith}
use Rattle.std.specs.List.{list_all, before_first, after_first, position_or_len}
use Rattle.std.specs.Char.{digit_value}
use Rattle.std.specs.Int.{IsInRange}
use Rattle.std.specs.Str.Parse.{digits_value, digits_value_after}
use Rattle.std.proofs.lemmas.Bool.{and_parts, leb-true, ne_eqb}
use Rattle.std.proofs.lemmas.List.{at_drop_more, take_all, drop_all}
use Rattle.std.proofs.lemmas.List.Folds.{list_all_at}
use Rattle.std.proofs.lemmas.Str.{digit_value_digit}
use Rattle.smithy_types.specs.BigNumbers.{is_digit, is_exponent_mark, unsigned, are_digits, is_signed_digits, is_mantissa, mantissa_of, coefficient_in}

pub is_digit-in_range : (b : ℕ) → is_digit b ≡ true → IsInRange 48 57 b
is_digit-in_range b e = let parts = and_parts _ _ e in (leb-true 48 b parts.0, leb-true b 57 parts.1)

-- more digits make a number no smaller
pub value_grows : (n : ℕ) (ds : List ℕ) → n ≤ digits_value_after 10 n ds
value_grows n [] = omega arith
value_grows n (c ∷ cs) = omega (arith, value_grows (n * 10 + digit_value c) cs)

pub value_append : (n : ℕ) (a b : List ℕ) → digits_value_after 10 n (a ++ b) ≡ digits_value_after 10 (digits_value_after 10 n a) b
value_append n [] b = refl
value_append n (c ∷ a) b = value_append (n * 10 + digit_value c) a b

-- one digit of what is left
pub value_more : (n : ℕ) (ds : List ℕ) (i : ℕ) → i < length ds → digits_value_after 10 n (drop i ds) ≡ digits_value_after 10 (n * 10 + digit_value (get_or ds i 0)) (drop (i + 1) ds)
value_more n ds i h = at_drop_more (digits_value_after 10 n) ds i 0 h

pub digit_at : (ds : List ℕ) (i : ℕ) → list_all is_digit ds ≡ true → i < length ds → digit_value (get_or ds i 0) + 48 ≡ get_or ds i 0
digit_at ds i all h = go (is_digit (get_or ds i 0)) refl
  where
    go : (b : Bool) → is_digit (get_or ds i 0) ≡ b → digit_value (get_or ds i 0) + 48 ≡ get_or ds i 0
    go true e = digit_value_digit (get_or ds i 0) (is_digit-in_range (get_or ds i 0) e)
    go false e = absurd (let none = list_all_at is_digit ds i 0 h e in cc)

-- the number of the digits before a point and behind it
pub coefficient_in-parts : (mantissa : List ℕ) → coefficient_in mantissa ≡ digits_value_after 10 (digits_value 10 (before_first (λ b. b == 46) mantissa)) (after_first (λ b. b == 46) mantissa)
coefficient_in-parts mantissa = value_append 0 (before_first (λ b. b == 46) mantissa) (after_first (λ b. b == 46) mantissa)

-- digits have no byte that is no digit
pub place_in_digits : (p : ℕ → Bool) → ((b : ℕ) → is_digit b ≡ true → p b ≡ false) → (ds : List ℕ) → list_all is_digit ds ≡ true → position_or_len p ds ≡ length ds
place_in_digits p none [] all = refl
place_in_digits p none (d ∷ ds) all =
    let parts = and_parts (is_digit d) (list_all is_digit ds) all in
    rw (none d parts.0) (let more : 1 + position_or_len p ds ≡ suc (length ds) = omega (arith, place_in_digits p none ds parts.1) in more)

before_in_digits : (p : ℕ → Bool) → ((b : ℕ) → is_digit b ≡ true → p b ≡ false) → (ds : List ℕ) → list_all is_digit ds ≡ true → before_first p ds ≡ ds
before_in_digits p none ds all = ap (λ n. take n ds) (place_in_digits p none ds all) ∙ take_all (length ds) ds (omega arith)

after_in_digits : (p : ℕ → Bool) → ((b : ℕ) → is_digit b ≡ true → p b ≡ false) → (ds : List ℕ) → list_all is_digit ds ≡ true → after_first p ds ≡ []
after_in_digits p none ds all = ap (λ n. drop (n + 1) ds) (place_in_digits p none ds all) ∙ drop_all (length ds + 1) ds (omega arith)

pub not_equal : (b other : ℕ) → is_digit b ≡ true → (IsInRange 48 57 b → b ≢ other) → (b == other) ≡ false
not_equal b other e apart = ne_eqb b other (apart (is_digit-in_range b e))

pub no_point : (b : ℕ) → is_digit b ≡ true → (b == 46) ≡ false
no_point b e = not_equal b 46 e (λ r same. omega arith)

pub no_mark : (b : ℕ) → is_digit b ≡ true → is_exponent_mark b ≡ false
no_mark b e = rw (not_equal b 101 e (λ r same. omega arith), not_equal b 69 e (λ r same. omega arith)) refl

-- signed digits have a mantissa
digits-mantissa : (ds : List ℕ) → are_digits ds ≡ true → is_mantissa (before_first is_exponent_mark ds) ≡ true
digits-mantissa ds e =
    let parts = and_parts _ _ e in
    rw (
      before_in_digits is_exponent_mark no_mark ds parts.1,
      before_in_digits (λ b. b == 46) no_point ds parts.1,
      after_in_digits (λ b. b == 46) no_point ds parts.1,
      parts.1,
      add-zero,
    ) parts.0

pub signed_digits-mantissa : (text : List ℕ) → is_signed_digits text ≡ true → is_mantissa (mantissa_of text) ≡ true
signed_digits-mantissa text e = digits-mantissa (unsigned text) e
