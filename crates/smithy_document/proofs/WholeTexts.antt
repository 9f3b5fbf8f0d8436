-- The decimal texts of whole numbers are big numbers.
use Rattle.smithy_document.proofs.Common.{◌≡◌, refl, ap, ◌∙◌, ℕ, ◌+◌, ◌<◌, ◌≤◌, ◌^◌, ◌==◌, suc, nat_eq, codes, true, false, List, [], ◌∷◌, length, ℤ, pos, negsuc, arith, FitsSigned, to_z, of_z, digit_value, signed_decimal, w128, list_all, starts_with, AllDigits, digits_value, and_parts, and_from, le-leb, ne_eqb, decimal_is_IsNumeral_wide, to_z-of_z, append-nil, take_all, drop_all, is_digit-in_range, signed_digits-mantissa, is_mantissa, is_exponent, mantissa_of, exponent_of, is_digit, is_sign, is_exponent_mark, unsigned, are_digits, is_signed_digits, is_big_decimal, coefficient, has_narrow_coefficient, is_big_integer_in_range, is_big_decimal_in_range}
use Rattle.std.specs.Fmt.{decimal}
use Rattle.std.proofs.lemmas.Bool.{lt-ltb}
use Rattle.std.proofs.lemmas.Str.Parse.{digit_from_value}
use Rattle.smithy_types.proofs.Coefficients.{place_in_digits, not_equal, no_point, no_mark}

digit : (b : ℕ) → digit_value b < 10 → is_digit b ≡ true
digit b h = let r = digit_from_value b h in and_from _ _ (le-leb 48 b r.0) (le-leb b 57 r.1)

digits_all : (ds : List ℕ) → AllDigits 10 ds → list_all is_digit ds ≡ true
digits_all [] all = refl
digits_all (d ∷ ds) all = and_from (is_digit d) (list_all is_digit ds) (digit d all.0) (digits_all ds all.1)

no_sign : (b : ℕ) → is_digit b ≡ true → is_sign b ≡ false
no_sign b e = rw (not_equal b 43 e (λ r same. omega arith), not_equal b 45 e (λ r same. omega arith)) refl

unsigned_digits : (ds : List ℕ) → list_all is_digit ds ≡ true → unsigned ds ≡ ds
unsigned_digits [] all = refl
unsigned_digits (d ∷ ds) all = rw (no_sign d (and_parts _ _ all).0) refl

no_minus : (ds : List ℕ) → list_all is_digit ds ≡ true → starts_with nat_eq ds (codes "-") ≡ false
no_minus [] all = refl
no_minus (d ∷ ds) all = let r = is_digit-in_range d (and_parts _ _ all).0 in rw (ne_eqb 45 d (λ same. omega arith)) refl

-- a sign and digits: their grammars and the number of the digits
record IsWhole (text ds : List ℕ) : Type 0 where
  digits : is_signed_digits text ≡ true
  number : is_big_decimal text ≡ true
  value : coefficient text ≡ digits_value 10 ds

are_some : (ds : List ℕ) → list_all is_digit ds ≡ true → 0 < length ds → are_digits ds ≡ true
are_some ds all some = rw (ne_eqb (length ds) 0 (λ none. omega arith)) all

whole_at : (text ds : List ℕ) → unsigned text ≡ ds → list_all is_digit ds ≡ true → are_digits ds ≡ true → IsWhole text ds
whole_at text ds e all digits =
    let signed : is_signed_digits text ≡ true = rw e digits in
    let marks = place_in_digits is_exponent_mark no_mark ds all in
    let points = place_in_digits (λ b. b == 46) no_point ds all in
    record {
      digits = signed;
      number = and_from (is_mantissa (mantissa_of text)) (is_exponent (exponent_of text)) (signed_digits-mantissa text signed) (rw (e, marks, drop_all (length ds) ds (omega arith)) refl);
      value = rw (e, marks, take_all (length ds) ds (omega arith), points, take_all (length ds) ds (omega arith), drop_all (length ds + 1) ds (omega arith), append-nil ds) refl;
    }

whole : (text ds : List ℕ) → unsigned text ≡ ds → list_all is_digit ds ≡ true → 0 < length ds → IsWhole text ds
whole text ds e all some = whole_at text ds e all (are_some ds all some)

-- without a sign, and behind a minus
plain_narrow : (text ds : List ℕ) (n : ℕ) → IsWhole text ds → digits_value 10 ds ≡ n → starts_with nat_eq text (codes "-") ≡ false → n < 2 ^ 127 → has_narrow_coefficient text ≡ true
plain_narrow text ds n w v sign h = rw (sign, w.value, v) (lt-ltb n (2 ^ 127) h)

minus_narrow : (text ds : List ℕ) (n : ℕ) → IsWhole text ds → digits_value 10 ds ≡ n → starts_with nat_eq text (codes "-") ≡ true → n ≤ 2 ^ 127 → has_narrow_coefficient text ≡ true
minus_narrow text ds n w v sign h = rw (sign, w.value, v) (le-leb n (2 ^ 127) h)

record IsNarrow (text : List ℕ) : Type 0 where
  digits : is_signed_digits text ≡ true
  number : is_big_decimal text ≡ true
  narrow : has_narrow_coefficient text ≡ true

narrow : (z : ℤ) → FitsSigned w128 z → IsNarrow (signed_decimal z)
narrow (pos n) fits =
    let numeral = decimal_is_IsNumeral_wide n (omega (arith, fits.sfits)) in
    let all = digits_all (decimal n) numeral.0.1 in
    let w = whole (decimal n) (decimal n) (unsigned_digits (decimal n) all) all numeral.0.0 in
    record { digits = w.digits; number = w.number; narrow = plain_narrow _ (decimal n) n w numeral.1 (no_minus (decimal n) all) (omega (arith, fits.sfits)) }
narrow (negsuc n) fits =
    let numeral = decimal_is_IsNumeral_wide (suc n) (omega (arith, fits.sfits)) in
    let all = digits_all (decimal (suc n)) numeral.0.1 in
    let w = whole (45 ∷ decimal (suc n)) (decimal (suc n)) refl all numeral.0.0 in
    record { digits = w.digits; number = w.number; narrow = minus_narrow _ (decimal (suc n)) (suc n) w numeral.1 refl (omega (arith, fits.sfits)) }

pub integer_in_range : (z : ℤ) → FitsSigned w128 z → is_big_integer_in_range (signed_decimal z) ≡ true
integer_in_range z fits = let n = narrow z fits in and_from _ _ n.digits n.narrow

pub decimal_in_range : (z : ℤ) → FitsSigned w128 z → is_big_decimal_in_range (signed_decimal z) ≡ true
decimal_in_range z fits = let n = narrow z fits in and_from _ _ n.number n.narrow

-- the text that a call wrote of a whole number
pub written : (text : List ℕ) (z : ℤ) → FitsSigned w128 z → text ≡ signed_decimal (to_z w128 (of_z w128 z)) → text ≡ signed_decimal z
written text z fits is = is ∙ ap signed_decimal (to_z-of_z w128 z fits)
