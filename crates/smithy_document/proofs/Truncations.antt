-- The integer part of a decimal, by its digits and by its coefficient.
use Rattle.std.proofs.Common.{if◌then◌else◌, nat_lt}
use Rattle.smithy_document.proofs.Common.{◌≡◌, refl, sym, ap, ◌∙◌, subst, ℕ, zero, suc, ◌+◌, ◌-◌, ◌*◌, ◌/◌, ◌^◌, ◌<◌, ◌≤◌, ◌==◌, min, Bool, true, false, ◌&&◌, ⊎_elim, List, [], ◌∷◌, ◌++◌, length, take, replicate, Option, Some, None, ℤ, pos, negsuc, neg_ℤ, ◌+ℤ◌, ◌-ℤ◌, int_le, unsigned_abs, nat_le, nat_eq, codes, IsTrue, arith, list_all, starts_with, before_first, after_first, AllDigits, digits_value, digits_value_after, and_parts, cases_lt, cases_Bool, le-leb, lt-leb, leb-true, ltb-true, ne_eqb, ints, append-nil, take_all, length-append, is_digit, is_mantissa, is_exponent, mantissa_of, exponent_of, is_big_decimal, coefficient, has_narrow_coefficient, is_big_decimal_in_range, coefficient_in-parts, value_grows, then_try, then_give, exponent_value, first_digits, whole_size, whole_text, is_negative, truncated, without_zeros, big_integer, SerdeError, near, fraction_len, scaled, whole_part, too_large}
use Rattle.std.specs.Option.{ok_or}
use Rattle.std.proofs.Math.Nat.{zero-mul, div-eq_of_lt, pow-le-pow_right, mul-le-mul_right, le-mul_of_pos_right, mul_comm}
use Rattle.std.proofs.lemmas.Bool.{le-ltb}
use Rattle.std.proofs.lemmas.Int.Digits.{digits_value-lt}
use Rattle.std.proofs.lemmas.Nat.{pow-add}
use Rattle.smithy_document.proofs.DigitLemmas.{all_digits, all_joined, cut, extended, same_number, shorter, all_without, LeadsNonzero, leads, large}

pub none_over : (b : Bool) (m : ℕ) → 2 ^ 127 < m → whole_text b m ≡ None
none_over true m h = rw (lt-leb m (2 ^ 127) h) refl
none_over false m h = rw (le-ltb m (2 ^ 127) (omega arith)) refl

-- ---- powers of ten

ten_grows : (i j : ℕ) → i ≤ j → 10 ^ i ≤ 10 ^ j
ten_grows i j h = pow-le-pow_right {n = 10} (omega arith) h

pub ten_positive : (n : ℕ) → 0 < 10 ^ n
ten_positive n = let one = ten_grows 0 n (omega arith) in omega arith

-- no power of ten fits whose exponent is past 32 bits
pub too_high : (n : ℕ) → (n < 2 ^ 32 → ⊥) → 10 ^ n < 2 ^ 128 → ⊥
too_high n high small = ⊎_elim high (λ h. let g = ten_grows 39 n (omega arith) in omega arith) (cases_lt n (2 ^ 32))

past : (n k : ℕ) → 39 ≤ k → 10 ^ k ≤ n → 2 ^ 127 < n
past n k h large = let g = ten_grows 39 k h in omega arith

times : (c d k : ℕ) → d ≤ c → d * 10 ^ k ≤ c * 10 ^ k
times c d k h = mul-le-mul_right (10 ^ k) h

grown_past : (c i : ℕ) → 0 < c → 39 ≤ i → 2 ^ 127 < c * 10 ^ i
grown_past c i some h =
    let g : 10 ^ i ≤ 10 ^ i * c = le-mul_of_pos_right (10 ^ i) some in
    past (c * 10 ^ i) i h (subst (λ n. 10 ^ i ≤ n) (mul_comm (10 ^ i) c) g)

gone : (c i : ℕ) → c ≤ 2 ^ 127 → 39 ≤ i → c / 10 ^ i ≡ 0
gone c i narrow h = let g = ten_grows 39 i h in div-eq_of_lt (omega arith)

-- ---- exponents that are far from zero

far_up : (c i j : ℕ) (b : Bool) → 39 ≤ i → 39 ≤ j → whole_text b (c * 10 ^ i) ≡ whole_text b (c * 10 ^ j)
far_up zero i j b h k = ap (whole_text b) (zero-mul (10 ^ i) ∙ sym (zero-mul (10 ^ j)))
far_up (suc c) i j b h k = none_over b (suc c * 10 ^ i) (grown_past (suc c) i (omega arith) h) ∙ sym (none_over b (suc c * 10 ^ j) (grown_past (suc c) j (omega arith) k))

near_up : (c n l : ℕ) (b : Bool) → l < 2 ^ 64 → whole_text b (scaled c (pos (min n (2 ^ 100)) -ℤ pos l)) ≡ whole_text b (scaled c (pos n -ℤ pos l))
near_up c n l b short = ⊎_elim further within (cases_lt (2 ^ 100) n)
  where
    further : 2 ^ 100 < n → whole_text b (scaled c (pos (min n (2 ^ 100)) -ℤ pos l)) ≡ whole_text b (scaled c (pos n -ℤ pos l))
    further h =
        let x : pos (min n (2 ^ 100)) -ℤ pos l ≡ pos (2 ^ 100 - l) = omega (arith, ints) in
        let y : pos n -ℤ pos l ≡ pos (n - l) = omega (arith, ints) in
        ap (λ s. whole_text b (scaled c s)) x ∙ far_up c (2 ^ 100 - l) (n - l) b (omega arith) (omega arith) ∙ ap (λ s. whole_text b (scaled c s)) (sym y)

    within : n ≤ 2 ^ 100 → whole_text b (scaled c (pos (min n (2 ^ 100)) -ℤ pos l)) ≡ whole_text b (scaled c (pos n -ℤ pos l))
    within h = let e : min n (2 ^ 100) ≡ n = omega arith in ap (λ m. whole_text b (scaled c (pos m -ℤ pos l))) e

near_down : (c n l : ℕ) (b : Bool) → c ≤ 2 ^ 127 → whole_text b (scaled c (neg_ℤ (pos (min (suc n) (2 ^ 100))) -ℤ pos l)) ≡ whole_text b (scaled c (negsuc n -ℤ pos l))
near_down c n l b narrow = ⊎_elim further within (cases_lt (2 ^ 100) (suc n))
  where
    further : 2 ^ 100 < suc n → whole_text b (scaled c (neg_ℤ (pos (min (suc n) (2 ^ 100))) -ℤ pos l)) ≡ whole_text b (scaled c (negsuc n -ℤ pos l))
    further h =
        let x : neg_ℤ (pos (min (suc n) (2 ^ 100))) -ℤ pos l ≡ negsuc (2 ^ 100 - 1 + l) = omega (arith, ints) in
        let y : negsuc n -ℤ pos l ≡ negsuc (n + l) = omega (arith, ints) in
        let nothing : c / 10 ^ suc (2 ^ 100 - 1 + l) ≡ c / 10 ^ suc (n + l) = gone c (suc (2 ^ 100 - 1 + l)) narrow (omega arith) ∙ sym (gone c (suc (n + l)) narrow (omega arith)) in
        ap (λ s. whole_text b (scaled c s)) x ∙ ap (whole_text b) nothing ∙ ap (λ s. whole_text b (scaled c s)) (sym y)

    within : suc n ≤ 2 ^ 100 → whole_text b (scaled c (neg_ℤ (pos (min (suc n) (2 ^ 100))) -ℤ pos l)) ≡ whole_text b (scaled c (negsuc n -ℤ pos l))
    within h = let e : min (suc n) (2 ^ 100) ≡ suc n = omega arith in ap (λ m. whole_text b (scaled c (neg_ℤ (pos m) -ℤ pos l))) e

pub near_enough : (c : ℕ) (e : ℤ) (l : ℕ) (b : Bool) → c ≤ 2 ^ 127 → l < 2 ^ 64 → whole_text b (scaled c (near e -ℤ pos l)) ≡ whole_text b (scaled c (e -ℤ pos l))
near_enough c (pos n) l b narrow short = near_up c n l b short
near_enough c (negsuc n) l b narrow short = near_down c n l b narrow

-- ---- the size by digits

-- of digits that so many places are before the point
abbrev size_of : List ℕ → ℤ → Option ℕ
size_of ds places =
    if length ds == 0 then Some 0
    else if int_le places (pos 0) then Some 0
    else if int_le places (pos 39) then Some (first_digits (unsigned_abs places) ds)
    else None

abbrev IsSize : Option ℕ → ℕ → Type 0
IsSize (Some n) m = n ≡ m
IsSize None m = 2 ^ 127 < m

-- where the point stands behind some digits
before_point : (ds : List ℕ) (k m : ℕ) → 0 < length ds → 0 < k → (k ≤ 39 → first_digits k ds ≡ m) → (39 < k → 2 ^ 127 < m) → IsSize (size_of ds (pos k)) m
before_point ds k m some ahead short long =
    rw (ne_eqb (length ds) 0 (λ e. omega arith), lt-leb k 0 ahead) (⊎_elim over under (cases_lt 39 k))
  where
    over : 39 < k → IsSize (if nat_le k 39 then Some (first_digits k ds) else None) m
    over h = rw (lt-leb k 39 h) (long h)

    under : k ≤ 39 → IsSize (if nat_le k 39 then Some (first_digits k ds) else None) m
    under h = rw (le-leb k 39 h) (short h)

all_zeros : (ds : List ℕ) (places : ℤ) (m : ℕ) → int_le places (pos 0) ≡ true → 0 ≡ m → IsSize (size_of ds places) m
all_zeros ds places m low none = ⊎_elim first second (cases_Bool (length ds == 0))
  where
    first : (length ds == 0) ≡ true → IsSize (size_of ds places) m
    first e = rw e none

    second : (length ds == 0) ≡ false → IsSize (size_of ds places) m
    second e = rw (e, low) none

sized_up : (ds : List ℕ) (k : ℕ) → AllDigits 10 ds → LeadsNonzero ds → IsSize (size_of ds (pos (length ds + k))) (digits_value 10 ds * 10 ^ k)
sized_up [] k all first = sym (zero-mul (10 ^ k))
sized_up (d ∷ ds) k all first = before_point (d ∷ ds) (suc (length ds) + k) _ (omega arith) (omega arith) short long
  where
    short : suc (length ds) + k ≤ 39 → first_digits (suc (length ds) + k) (d ∷ ds) ≡ digits_value 10 (d ∷ ds) * 10 ^ k
    short h =
        let taken : take (suc (length ds) + k) (d ∷ ds) ≡ d ∷ ds = take_all (suc (length ds) + k) (d ∷ ds) (omega arith) in
        let left : suc (length ds) + k - suc (length ds) ≡ k = omega arith in
        ap (λ t. digits_value 10 (t ++ replicate (suc (length ds) + k - suc (length ds)) 48)) taken ∙ ap (λ n. digits_value 10 ((d ∷ ds) ++ replicate n 48)) left ∙ extended k (d ∷ ds)

    long : 39 < suc (length ds) + k → 2 ^ 127 < digits_value 10 (d ∷ ds) * 10 ^ k
    long h =
        let t : 10 ^ length ds * 10 ^ k ≤ digits_value 10 (d ∷ ds) * 10 ^ k = times (digits_value 10 (d ∷ ds)) (10 ^ length ds) k (large d ds all first) in
        past (digits_value 10 (d ∷ ds) * 10 ^ k) (length ds + k) (omega arith) (subst (λ n. n ≤ digits_value 10 (d ∷ ds) * 10 ^ k) (sym (pow-add 10 (length ds) k)) t)

low_places : (l k : ℕ) → l ≤ suc k → int_le (pos l +ℤ negsuc k) (pos 0) ≡ true
low_places l k h = grind (arith, ints)

sized_down : (ds : List ℕ) (k : ℕ) → AllDigits 10 ds → LeadsNonzero ds → digits_value 10 ds ≤ 2 ^ 127 → IsSize (size_of ds (pos (length ds) +ℤ negsuc k)) (digits_value 10 ds / 10 ^ suc k)
sized_down ds k all first narrow = ⊎_elim some none (cases_lt (suc k) (length ds))
  where
    none : length ds ≤ suc k → IsSize (size_of ds (pos (length ds) +ℤ negsuc k)) (digits_value 10 ds / 10 ^ suc k)
    none h =
        let small = digits_value-lt 10 ds all in
        let g = ten_grows (length ds) (suc k) h in
        all_zeros ds (pos (length ds) +ℤ negsuc k) (digits_value 10 ds / 10 ^ suc k) (low_places (length ds) k h) (sym (div-eq_of_lt (omega arith)))

    few : (ds : List ℕ) → AllDigits 10 ds → LeadsNonzero ds → digits_value 10 ds ≤ 2 ^ 127 → length ds ≤ 39
    few [] all first narrow = omega arith
    few (d ∷ ds) all first narrow = ⊎_elim (λ h. absurd (let p = past (digits_value 10 (d ∷ ds)) (length ds) (omega arith) (large d ds all first) in omega arith)) (λ h. h) (cases_lt 39 (suc (length ds)))

    short : suc k < length ds → first_digits (length ds - suc k) ds ≡ digits_value 10 ds / 10 ^ suc k
    short h =
        let nothing : length ds - suc k - length ds ≡ 0 = omega arith in
        let back : length ds - (length ds - suc k) ≡ suc k = omega arith in
        ap (λ n. digits_value 10 (take (length ds - suc k) ds ++ replicate n 48)) nothing
        ∙ ap (digits_value 10) (append-nil (take (length ds - suc k) ds))
        ∙ cut (length ds - suc k) ds all
        ∙ ap (λ n. digits_value 10 ds / 10 ^ n) back

    some : suc k < length ds → IsSize (size_of ds (pos (length ds) +ℤ negsuc k)) (digits_value 10 ds / 10 ^ suc k)
    some h =
        let places : pos (length ds) +ℤ negsuc k ≡ pos (length ds - suc k) = omega (arith, ints) in
        let l = few ds all first narrow in
        subst (λ p. IsSize (size_of ds p) (digits_value 10 ds / 10 ^ suc k)) (sym places)
        (before_point ds (length ds - suc k) (digits_value 10 ds / 10 ^ suc k) (omega arith) (omega arith) (λ _. short h) (λ over. absurd (omega arith)))

sized : (ds : List ℕ) (s : ℤ) → AllDigits 10 ds → LeadsNonzero ds → digits_value 10 ds ≤ 2 ^ 127 → IsSize (size_of ds (pos (length ds) +ℤ s)) (scaled (digits_value 10 ds) s)
sized ds (pos k) all first narrow = sized_up ds k all first
sized ds (negsuc k) all first narrow = sized_down ds k all first narrow

-- ---- a decimal within 128 bits

places_from : (w p l : ℕ) (e : ℤ) → l ≤ w + p → pos w +ℤ e +ℤ neg_ℤ (pos (w + p - l)) ≡ pos l +ℤ (e -ℤ pos p)
places_from w p l e h = omega (arith, ints)

answered : (o : Option ℕ) (m : ℕ) (b : Bool) (e : SerdeError) → IsSize o m → then_try (ok_or o e) (λ n. then_give (ok_or (whole_text b n) e) (λ t. big_integer t)) ≡ then_give (ok_or (whole_text b m) e) (λ t. big_integer t)
answered (Some n) m b e same = ap (λ x. then_give (ok_or (whole_text b x) e) (λ t. big_integer t)) same
answered None m b e over = rw (none_over b m over) refl

narrow_size : (b : Bool) (n : ℕ) → (if b then nat_le n (2 ^ 127) else nat_lt n (2 ^ 127)) ≡ true → n ≤ 2 ^ 127
narrow_size true n e = leb-true n (2 ^ 127) e
narrow_size false n e = let below = ltb-true n (2 ^ 127) e in omega arith

-- what a decimal within 128 bits has
pub record HasParts (text : List ℕ) : Type 0 where
  pub mantissa : is_mantissa (mantissa_of text) ≡ true
  pub exponent : is_exponent (exponent_of text) ≡ true
  pub whole : list_all is_digit (before_first (λ b. b == 46) (mantissa_of text)) ≡ true
  pub part : list_all is_digit (after_first (λ b. b == 46) (mantissa_of text)) ≡ true
  pub narrow : coefficient text ≤ 2 ^ 127

pub has_parts : (text : List ℕ) → IsTrue (is_big_decimal_in_range text) → HasParts text
has_parts text h =
    let both = and_parts (is_big_decimal text) (has_narrow_coefficient text) h in
    let forms = and_parts (is_mantissa (mantissa_of text)) (is_exponent (exponent_of text)) both.0 in
    let digits = and_parts (list_all is_digit (before_first (λ b. b == 46) (mantissa_of text)) && list_all is_digit (after_first (λ b. b == 46) (mantissa_of text))) _ forms.0 in
    let sides = and_parts _ _ digits.0 in
    record { mantissa = forms.0; exponent = forms.1; whole = sides.0; part = sides.1; narrow = narrow_size (starts_with nat_eq text (codes "-")) (coefficient text) both.1 }

sized_text : (whole part : List ℕ) (e : ℤ) → AllDigits 10 (whole ++ part) → digits_value 10 (whole ++ part) ≤ 2 ^ 127
    → IsSize (size_of (without_zeros (whole ++ part)) (pos (length whole) +ℤ e +ℤ neg_ℤ (pos (length (whole ++ part) - length (without_zeros (whole ++ part)))))) (scaled (digits_value 10 (whole ++ part)) (e -ℤ pos (length part)))
sized_text whole part e all narrow =
    let ds = without_zeros (whole ++ part) in
    let same : digits_value 10 ds ≡ digits_value 10 (whole ++ part) = same_number (whole ++ part) in
    let long : length (whole ++ part) ≡ length whole + length part = length-append whole part in
    let short : length ds ≤ length whole + length part = subst (λ n. length ds ≤ n) long (shorter (whole ++ part)) in
    let places : pos (length whole) +ℤ e +ℤ neg_ℤ (pos (length (whole ++ part) - length ds)) ≡ pos (length ds) +ℤ (e -ℤ pos (length part)) =
    ap (λ n. pos (length whole) +ℤ e +ℤ neg_ℤ (pos (n - length ds))) long ∙ places_from (length whole) (length part) (length ds) e short in
    let size = sized ds (e -ℤ pos (length part)) (all_without (whole ++ part) all) (leads (whole ++ part)) (subst (λ n. n ≤ 2 ^ 127) (sym same) narrow) in
    subst (λ p. IsSize (size_of ds p) (scaled (digits_value 10 (whole ++ part)) (e -ℤ pos (length part)))) (sym places)
    (subst (λ n. IsSize (size_of ds (pos (length ds) +ℤ (e -ℤ pos (length part)))) (scaled n (e -ℤ pos (length part)))) same size)

pub truncated_from : (text : List ℕ) → HasParts text → truncated text ≡ then_give (ok_or (whole_text (is_negative text) (whole_part text)) (too_large text)) (λ t. big_integer t)
truncated_from text h =
    let whole = before_first (λ b. b == 46) (mantissa_of text) in
    let part = after_first (λ b. b == 46) (mantissa_of text) in
    let all = all_joined whole part (all_digits whole h.whole) (all_digits part h.part) in
    answered (whole_size text) (whole_part text) (is_negative text) (too_large text) (sized_text whole part (exponent_value (exponent_of text)) all h.narrow)

-- the number of a mantissa, read side by side
pub coefficient_read : (text : List ℕ) (a b : ℕ) → HasParts text → a ≡ min (digits_value 10 (before_first (λ b. b == 46) (mantissa_of text))) (2 ^ 128 - 1)
    → b ≡ min (digits_value_after 10 a (after_first (λ b. b == 46) (mantissa_of text))) (2 ^ 128 - 1) → b ≡ coefficient text
coefficient_read text a b h first second =
    let whole = digits_value 10 (before_first (λ b. b == 46) (mantissa_of text)) in
    let part = after_first (λ b. b == 46) (mantissa_of text) in
    let total : coefficient text ≡ digits_value_after 10 whole part = coefficient_in-parts (mantissa_of text) in
    let grows : whole ≤ digits_value_after 10 whole part = value_grows whole part in
    let narrow : coefficient text ≤ 2 ^ 127 = h.narrow in
    let same : a ≡ whole = omega (arith, first, total, grows, narrow) in
    let next : b ≡ min (digits_value_after 10 whole part) (2 ^ 128 - 1) = second ∙ ap (λ n. min (digits_value_after 10 n part) (2 ^ 128 - 1)) same in
    omega (arith, next, total, narrow)

-- the number that the code moves by the places that it has
pub valued : (text : List ℕ) (c : ℕ) (s : ℤ) (b : Bool) → c ≡ coefficient text → c ≤ 2 ^ 127 → s ≡ near (exponent_value (exponent_of text)) -ℤ pos (fraction_len text) → fraction_len text < 2 ^ 64
    → whole_text b (scaled c s) ≡ whole_text b (whole_part text)
valued text c s b number narrow places short =
    ap (λ p. whole_text b (scaled c p)) places
    ∙ near_enough c (exponent_value (exponent_of text)) (fraction_len text) b narrow short
    ∙ ap (λ n. whole_text b (scaled n (exponent_value (exponent_of text) -ℤ pos (fraction_len text)))) number

pub wide : (n : ℕ) → (n < 2 ^ 128 → ⊥) → 2 ^ 127 < n
wide n h = ⊎_elim (λ small. absurd (h small)) (λ high. omega arith) (cases_lt n (2 ^ 128))
