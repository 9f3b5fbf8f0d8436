-- The numbers of digits of which some are cut off, or behind which zeros stand.
use Rattle.std.proofs.Common.{if◌then◌else◌}
use Rattle.smithy_document.proofs.Common.{◌≡◌, refl, sym, ap, ◌∙◌, subst, ℕ, zero, suc, ◌+◌, ◌-◌, ◌*◌, ◌/◌, ◌^◌, ◌<◌, ◌≤◌, ◌==◌, Bool, true, false, List, [], ◌∷◌, ◌++◌, length, take, drop, replicate, get_or, add-zero, ⊎_elim, min, nat_eq, codes, pos, neg_ℤ, arith, digit_value, list_all, starts_with, AllDigits, digits_value, digits_value_after, signed_digits_value, false≢true, and_parts, and_from, eqb-true, eqb-false, eq-eqb, ne_eqb, cases_eq, take-append-drop, length-drop, take_more, digit_value_digit, is_digit, unsigned, is_digit-in_range, value_append, without_zeros, near}
use Rattle.std.proofs.Math.Nat.{add-mul, mul_assoc, mul_comm, pow-suc, pow-succ', mul-one, le-mul_of_pos_right, add_assoc}
use Rattle.std.proofs.lemmas.Int.Digits.{digits_value-lt}
use Rattle.std.proofs.lemmas.Nat.{div-mul-add}
use Rattle.std.proofs.lemmas.Str.Parse.{digit_from_value}

digit : (b : ℕ) → is_digit b ≡ true → digit_value b < 10
digit b e = let r = is_digit-in_range b e in let d = digit_value_digit b r in omega (arith, r.1)

pub all_digits : (ds : List ℕ) → list_all is_digit ds ≡ true → AllDigits 10 ds
all_digits [] all = tt
all_digits (d ∷ ds) all = let parts = and_parts (is_digit d) (list_all is_digit ds) all in (digit d parts.0, all_digits ds parts.1)

pub all_joined : (a b : List ℕ) → AllDigits 10 a → AllDigits 10 b → AllDigits 10 (a ++ b)
all_joined [] b x y = y
all_joined (d ∷ a) b x y = (x.0, all_joined a b x.1 y)

all_left : (k : ℕ) (ds : List ℕ) → AllDigits 10 ds → AllDigits 10 (drop k ds)
all_left zero ds all = all
all_left (suc k) [] all = tt
all_left (suc k) (d ∷ ds) all = all_left k ds all.1

shifted : (n d p v : ℕ) → (n * 10 + d) * p + v ≡ n * (p * 10) + ((0 * 10 + d) * p + v)
shifted n d p v =
    let a : (n * 10 + d) * p ≡ n * 10 * p + d * p = add-mul (n * 10) d p in
    let b : n * 10 * p ≡ n * (p * 10) = mul_assoc n 10 p ∙ ap (λ x. n * x) (mul_comm 10 p) in
    let z : 0 * 10 + d ≡ d = omega arith in
    let e : (0 * 10 + d) * p ≡ d * p = ap (λ x. x * p) z in
    let left : (n * 10 + d) * p + v ≡ n * (p * 10) + d * p + v = ap (λ x. x + v) (a ∙ ap (λ x. x + d * p) b) in
    left ∙ add_assoc (n * (p * 10)) (d * p) v ∙ ap (λ x. n * (p * 10) + (x + v)) (sym e)

-- digits behind a number
pub behind : (n : ℕ) (ds : List ℕ) → digits_value_after 10 n ds ≡ n * 10 ^ length ds + digits_value 10 ds
behind n [] = omega arith
behind n (c ∷ cs) =
    let d = digit_value c in
    let first : digits_value_after 10 (n * 10 + d) cs ≡ (n * 10 + d) * 10 ^ length cs + digits_value 10 cs = behind (n * 10 + d) cs in
    let other : digits_value_after 10 (0 * 10 + d) cs ≡ (0 * 10 + d) * 10 ^ length cs + digits_value 10 cs = behind (0 * 10 + d) cs in
    let more : n * (10 ^ length cs * 10) ≡ n * 10 ^ suc (length cs) = ap (λ x. n * x) (sym (pow-suc 10 (length cs))) in
    first ∙ shifted n d (10 ^ length cs) (digits_value 10 cs) ∙ ap (λ x. x + ((0 * 10 + d) * 10 ^ length cs + digits_value 10 cs)) more ∙ ap (λ x. n * 10 ^ suc (length cs) + x) (sym other)

-- one digit more
pub read_more : (n : ℕ) (ds : List ℕ) (i : ℕ) → i < length ds → digits_value_after 10 n (take (i + 1) ds) ≡ digits_value_after 10 n (take i ds) * 10 + digit_value (get_or ds i 0)
read_more n ds i h = ap (digits_value_after 10 n) (take_more ds i 0 h) ∙ value_append n (take i ds) (get_or ds i 0 ∷ [])

-- without the last of them
pub cut : (k : ℕ) (ds : List ℕ) → AllDigits 10 ds → digits_value 10 (take k ds) ≡ digits_value 10 ds / 10 ^ (length ds - k)
cut k ds all =
    let front = digits_value 10 (take k ds) in
    let back = digits_value 10 (drop k ds) in
    let e : digits_value 10 ds ≡ front * 10 ^ length (drop k ds) + back = ap (digits_value 10) (sym (take-append-drop k ds)) ∙ value_append 0 (take k ds) (drop k ds) ∙ behind front (drop k ds) in
    let small : back < 10 ^ length (drop k ds) = digits_value-lt 10 (drop k ds) (all_left k ds all) in
    let whole : (front * 10 ^ length (drop k ds) + back) / 10 ^ length (drop k ds) ≡ front = div-mul-add front (10 ^ length (drop k ds)) back small in
    sym (ap (λ n. n / 10 ^ (length ds - k)) e ∙ ap (λ n. (front * 10 ^ length (drop k ds) + back) / 10 ^ n) (sym (length-drop k ds)) ∙ whole)

zeros : (n k : ℕ) → digits_value_after 10 n (replicate k 48) ≡ n * 10 ^ k
zeros n zero = sym (mul-one n)
zeros n (suc k) = zeros (n * 10 + 0) k ∙ ap (λ x. x * 10 ^ k) (add-zero (n * 10)) ∙ mul_assoc n 10 (10 ^ k) ∙ ap (λ x. n * x) (sym (pow-succ' 10 k))

-- with zeros behind them
pub extended : (k : ℕ) (ds : List ℕ) → digits_value 10 (ds ++ replicate k 48) ≡ digits_value 10 ds * 10 ^ k
extended k ds = value_append 0 ds (replicate k 48) ∙ zeros (digits_value 10 ds) k

-- ---- without the zeros at the front

same_step : (b : ℕ) (ds : List ℕ) (t : Bool) → (b == 48) ≡ t → digits_value 10 (without_zeros ds) ≡ digits_value 10 ds → digits_value 10 (if t then without_zeros ds else b ∷ ds) ≡ digits_value 10 (b ∷ ds)
same_step b ds true e same = subst (λ x. digits_value 10 (without_zeros ds) ≡ digits_value 10 (x ∷ ds)) (sym (eqb-true b 48 e)) same
same_step b ds false e same = refl

pub same_number : (ds : List ℕ) → digits_value 10 (without_zeros ds) ≡ digits_value 10 ds
same_number [] = refl
same_number (b ∷ ds) = same_step b ds (b == 48) refl (same_number ds)

shorter_step : (b : ℕ) (ds : List ℕ) (t : Bool) → length (without_zeros ds) ≤ length ds → length (if t then without_zeros ds else b ∷ ds) ≤ suc (length ds)
shorter_step b ds true short = omega arith
shorter_step b ds false short = omega arith

pub shorter : (ds : List ℕ) → length (without_zeros ds) ≤ length ds
shorter [] = omega arith
shorter (b ∷ ds) = shorter_step b ds (b == 48) (shorter ds)

all_step : (b : ℕ) (ds : List ℕ) (t : Bool) → AllDigits 10 (b ∷ ds) → AllDigits 10 (without_zeros ds) → AllDigits 10 (if t then without_zeros ds else b ∷ ds)
all_step b ds true all rest = rest
all_step b ds false all rest = all

pub all_without : (ds : List ℕ) → AllDigits 10 ds → AllDigits 10 (without_zeros ds)
all_without [] all = tt
all_without (b ∷ ds) all = all_step b ds (b == 48) all (all_without ds all.1)

-- the first of them, if any, is not 0
abbrev pub LeadsNonzero : List ℕ → Type 0
LeadsNonzero [] = Unit {0}
LeadsNonzero (d ∷ ds) = (d == 48) ≡ false

leads_step : (b : ℕ) (ds : List ℕ) (t : Bool) → (b == 48) ≡ t → LeadsNonzero (without_zeros ds) → LeadsNonzero (if t then without_zeros ds else b ∷ ds)
leads_step b ds true e rest = rest
leads_step b ds false e rest = e

pub leads : (ds : List ℕ) → LeadsNonzero (without_zeros ds)
leads [] = tt
leads (b ∷ ds) = leads_step b ds (b == 48) refl (leads ds)

pub large : (d : ℕ) (ds : List ℕ) → AllDigits 10 (d ∷ ds) → (d == 48) ≡ false → 10 ^ length ds ≤ digits_value 10 (d ∷ ds)
large d ds all first =
    let p = 10 ^ length ds in
    let value = digit_value_digit d (digit_from_value d all.0) in
    let apart = eqb-false d 48 first in
    let nonzero : 0 < 0 * 10 + digit_value d = grind (arith, apart) in
    let times : p ≤ p * (0 * 10 + digit_value d) = le-mul_of_pos_right p nonzero in
    let turned : p * (0 * 10 + digit_value d) ≡ (0 * 10 + digit_value d) * p = mul_comm p (0 * 10 + digit_value d) in
    let e : digits_value 10 (d ∷ ds) ≡ (0 * 10 + digit_value d) * p + digits_value 10 ds = behind (0 * 10 + digit_value d) ds in
    omega arith

-- ---- signed digits, by the text behind the sign

near_minus : (n : ℕ) → near (neg_ℤ (pos n)) ≡ neg_ℤ (pos (min n (2 ^ 100)))
near_minus zero = refl
near_minus (suc n) = refl

pub minus_number : (text : List ℕ) → starts_with nat_eq text (codes "-") ≡ true → near (signed_digits_value 10 text) ≡ neg_ℤ (pos (min (digits_value 10 (unsigned text)) (2 ^ 100)))
minus_number [] e = absurd (false≢true e)
minus_number (b ∷ ds) e =
    let is : 45 ≡ b = eqb-true 45 b (and_parts (45 == b) true e).0 in
    subst (λ x. near (signed_digits_value 10 (x ∷ ds)) ≡ neg_ℤ (pos (min (digits_value 10 (unsigned (x ∷ ds))) (2 ^ 100)))) is (near_minus (digits_value 10 ds))

plain_number : (b : ℕ) (ds : List ℕ) → (b == 45) ≡ false → (b == 43) ≡ false → near (signed_digits_value 10 (b ∷ ds)) ≡ pos (min (digits_value 10 (unsigned (b ∷ ds))) (2 ^ 100))
plain_number b ds minus plus = rw (minus, plus) refl

pub other_number : (text : List ℕ) → starts_with nat_eq text (codes "-") ≡ false → near (signed_digits_value 10 text) ≡ pos (min (digits_value 10 (unsigned text)) (2 ^ 100))
other_number [] e = refl
other_number (b ∷ ds) e = ⊎_elim plus plain (cases_eq b 43)
  where
    minus : b ≡ 45 → ⊥
    minus same = false≢true (sym e ∙ and_from (45 == b) true (eq-eqb 45 b (sym same)) refl)

    plus : b ≡ 43 → near (signed_digits_value 10 (b ∷ ds)) ≡ pos (min (digits_value 10 (unsigned (b ∷ ds))) (2 ^ 100))
    plus same = subst (λ x. near (signed_digits_value 10 (x ∷ ds)) ≡ pos (min (digits_value 10 (unsigned (x ∷ ds))) (2 ^ 100))) (sym same) refl

    plain : (b ≡ 43 → ⊥) → near (signed_digits_value 10 (b ∷ ds)) ≡ pos (min (digits_value 10 (unsigned (b ∷ ds))) (2 ^ 100))
    plain apart = plain_number b ds (ne_eqb b 45 minus) (ne_eqb b 43 apart)
