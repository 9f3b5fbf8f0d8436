-- The whole part of a number by its digits.
use Rattle.smithy_wire.proofs.Common.{◌≡◌, refl, sym, ap, ◌∙◌, ℕ, zero, suc, ◌+◌, ◌-◌, ◌*◌, ◌^◌, ◌<◌, ◌≤◌, ◌==◌, arith, Bool, true, false, ◌&&◌, if◌then◌else◌, List, [], ◌∷◌, ◌++◌, length, take, drop, Option, Some, None, pos, negsuc, and_from, length-append}
use Rattle.std.proofs.Common.{⊎_elim, min, le-ltb, lt-ltb}
use Rattle.std.proofs.lemmas.Int.{ints}
use Rattle.std.proofs.lemmas.List.{take_all, drop_all}
use Rattle.std.specs.Prelude.{neg_ℤ, int_le, int_lt}
use Rattle.std.specs.Char.{digit_value}
use Rattle.std.specs.List.{list_all}
use Rattle.std.specs.Str.Parse.{AllDigits, digits_value, digits_value_after}
use Rattle.std.proofs.Math.Nat.{zero-mul, pow-le-pow_right, le-mul_of_pos_right, mul_comm}
use Rattle.std.proofs.lemmas.Bool.{cases_lt, le-leb, ne_eqb}
use Rattle.std.proofs.lemmas.Str.Parse.{digit_from_value}
use Rattle.fast_float.specs.Text.{Parts, point_at, whole_of}
use Rattle.smithy_document.proofs.Truncations.{none_over, ten_positive}
use Rattle.smithy_serde.specs.DocumentReads.{whole_text}
use Rattle.smithy_types.proofs.Coefficients.{value_append}
use Rattle.smithy_types.specs.BigNumbers.{is_digit}
use Rattle.smithy_types.specs.Documents as doc
use Rattle.smithy_types.specs.Documents.{Number}
use Rattle.smithy_wire.specs.ExactNumbers.{decimal_in, floor_in, if_in_range, is_whole, size_below}

-- ---- digits

digit_from : (b : ℕ) → digit_value b < 10 → is_digit b ≡ true
digit_from b h = let r = digit_from_value b h in and_from _ _ (le-leb 48 b r.0) (le-leb b 57 r.1)

pub all_digits : (ds : List ℕ) → AllDigits 10 ds → list_all is_digit ds ≡ true
all_digits [] h = refl
all_digits (d ∷ ds) h = and_from (is_digit d) (list_all is_digit ds) (digit_from d h.0) (all_digits ds h.1)

pub front_digits : (n : ℕ) (ds : List ℕ) → AllDigits 10 ds → list_all is_digit (take n ds) ≡ true
front_digits zero ds h = refl
front_digits (suc n) [] h = refl
front_digits (suc n) (d ∷ ds) h = and_from (is_digit d) (list_all is_digit (take n ds)) (digit_from d h.0) (front_digits n ds h.1)

pub back_digits : (n : ℕ) (ds : List ℕ) → AllDigits 10 ds → list_all is_digit (drop n ds) ≡ true
back_digits zero ds h = all_digits ds h
back_digits (suc n) [] h = refl
back_digits (suc n) (d ∷ ds) h = back_digits n ds h.1

-- two numbers that are one up to a limit are so with further digits
capped : (ds : List ℕ) (x v : ℕ) → min x (2 ^ 128 - 1) ≡ min v (2 ^ 128 - 1) → min (digits_value_after 10 x ds) (2 ^ 128 - 1) ≡ min (digits_value_after 10 v ds) (2 ^ 128 - 1)
capped [] x v h = h
capped (d ∷ ds) x v h = capped ds (x * 10 + digit_value d) (v * 10 + digit_value d) (omega (arith, h))

pub both_read : (a b : List ℕ) (x y : ℕ) → x ≡ min (digits_value 10 a) (2 ^ 128 - 1) → y ≡ min (digits_value_after 10 x b) (2 ^ 128 - 1) → y ≡ min (digits_value 10 (a ++ b)) (2 ^ 128 - 1)
both_read a b x y first second =
    second ∙ capped b x (digits_value 10 a) (omega (arith, first)) ∙ ap (λ n. min n (2 ^ 128 - 1)) (sym (value_append 0 a b))

-- ---- two parts that are cut at one place

pub take_both : (n : ℕ) (a b : List ℕ) → take n (a ++ b) ≡ take n a ++ take (n - length a) b
take_both zero [] b = refl
take_both (suc n) [] b = let same : suc n ≡ suc n - 0 = omega arith in ap (λ k. take k b) same
take_both zero (x ∷ a) b = let none : 0 ≡ 0 - suc (length a) = omega arith in ap (λ k. take k b) none
take_both (suc n) (x ∷ a) b =
    let less : n - length a ≡ suc n - suc (length a) = omega arith in
    ap (λ xs. x ∷ xs) (take_both n a b ∙ ap (λ k. take n a ++ take k b) less)

pub drop_both : (n : ℕ) (a b : List ℕ) → drop n (a ++ b) ≡ drop n a ++ drop (n - length a) b
drop_both zero [] b = refl
drop_both (suc n) [] b = let same : suc n ≡ suc n - 0 = omega arith in ap (λ k. drop k b) same
drop_both zero (x ∷ a) b = let none : 0 ≡ 0 - suc (length a) = omega arith in ap (λ k. (x ∷ a) ++ drop k b) none
drop_both (suc n) (x ∷ a) b =
    let less : n - length a ≡ suc n - suc (length a) = omega arith in
    drop_both n a b ∙ ap (λ k. drop n a ++ drop k b) less

pub parts_read : (whole fraction front back : List ℕ) (place further r : ℕ) (at : ℕ → List ℕ → List ℕ)
    → ((n : ℕ) (a b : List ℕ) → at n (a ++ b) ≡ at n a ++ at (n - length a) b) → further ≡ place - length whole → front ≡ at place whole → back ≡ at further fraction
    → r ≡ min (digits_value 10 (front ++ back)) (2 ^ 128 - 1) → r ≡ min (digits_value 10 (at place (whole ++ fraction))) (2 ^ 128 - 1)
parts_read whole fraction front back place further r at both further_is front_is back_is h =
    h
    ∙ ap (λ t. min (digits_value 10 (t ++ back)) (2 ^ 128 - 1)) front_is
    ∙ ap (λ t. min (digits_value 10 (at place whole ++ t)) (2 ^ 128 - 1)) (back_is ∙ ap (λ n. at n fraction) further_is)
    ∙ ap (λ t. min (digits_value 10 t) (2 ^ 128 - 1)) (sym (both place whole fraction))

-- a place past all digits cuts nothing off
pub take_limited : (ds : List ℕ) (n place len : ℕ) → n ≡ min place len → len ≡ length ds → take n ds ≡ take place ds
take_limited ds n place len is size = ⊎_elim (λ h. take_all n ds (omega (arith, is, size, h)) ∙ sym (take_all place ds (omega (arith, size, h))))
    (λ h. let same : n ≡ place = omega (arith, is, h) in ap (λ k. take k ds) same) (cases_lt len place)

pub drop_limited : (ds : List ℕ) (n place len : ℕ) → n ≡ min place len → len ≡ length ds → drop n ds ≡ drop place ds
drop_limited ds n place len is size = ⊎_elim (λ h. drop_all n ds (omega (arith, is, size, h)) ∙ sym (drop_all place ds (omega (arith, size, h))))
    (λ h. let same : n ≡ place = omega (arith, is, h) in ap (λ k. drop k ds) same) (cases_lt len place)

pub limit_is : (place len : ℕ) → (place < 2 ^ 64 → ⊥) → len < 2 ^ 64 → len ≡ min place len
limit_is place len past short = ⊎_elim (λ small. absurd (past small)) (λ large. omega (arith, large, short)) (cases_lt place (2 ^ 64))

-- ---- the place of the point

pub point_back : (p : Parts) (count moved r : ℕ) → count ≡ length p.whole → count < 2 ^ 64 → moved ≡ min (digits_value 10 p.exponent) (2 ^ 128 - 1)
    → p.exponent_negative ≡ true → r ≡ count - moved → r ≡ min (point_at p) (2 ^ 128 - 1)
point_back p count moved r count_is short moved_is back h = go p.exponent_negative back
  where
    go : (b : Bool) → b ≡ true → r ≡ min (if b then length p.whole - digits_value 10 p.exponent else length p.whole + digits_value 10 p.exponent) (2 ^ 128 - 1)
    go true back = omega (arith, h, count_is, short, moved_is)
    go false back = absurd (cc back)

pub point_on : (p : Parts) (count moved r : ℕ) → count ≡ length p.whole → moved ≡ min (digits_value 10 p.exponent) (2 ^ 128 - 1)
    → p.exponent_negative ≡ false → r ≡ min (count + moved) (2 ^ 128 - 1) → r ≡ min (point_at p) (2 ^ 128 - 1)
point_on p count moved r count_is moved_is on h = go p.exponent_negative on
  where
    go : (b : Bool) → b ≡ false → r ≡ min (if b then length p.whole - digits_value 10 p.exponent else length p.whole + digits_value 10 p.exponent) (2 ^ 128 - 1)
    go true on = absurd (cc on)
    go false on = omega (arith, h, count_is, moved_is)

pub count_is : (p : Parts) (a b r : ℕ) → a ≡ length p.whole → b ≡ length p.fraction → r ≡ a + b → r ≡ length (p.whole ++ p.fraction)
count_is p a b r whole fraction h = let sum = length-append p.whole p.fraction in omega (arith, whole, fraction, h, sum)

-- ---- whether a number is whole

-- a number up to a limit is nothing exactly if it is
capped_zero : (v r : ℕ) → r ≡ min v (2 ^ 128 - 1) → (r == 0) ≡ (v == 0)
capped_zero zero r is = let none : r ≡ 0 = omega (arith, is) in ap (λ n. n == 0) none
capped_zero (suc v) r is = ne_eqb r 0 (λ none. omega (arith, is, none)) ∙ sym (ne_eqb (suc v) 0 (λ none. omega (arith, none)))

pub read_whole : (p : Parts) (place r : ℕ) → place ≡ min (point_at p) (length (p.whole ++ p.fraction))
    → r ≡ min (digits_value 10 (drop place (p.whole ++ p.fraction))) (2 ^ 128 - 1) → (r == 0) ≡ is_whole p
read_whole p place r at is =
    capped_zero (digits_value 10 (drop place (p.whole ++ p.fraction))) r is
    ∙ ap (λ ds. digits_value 10 ds == 0) (drop_limited (p.whole ++ p.fraction) place (point_at p) (length (p.whole ++ p.fraction)) at refl)

-- ---- the number before the point

ten_grows : (i j : ℕ) → i ≤ j → 10 ^ i ≤ 10 ^ j
ten_grows i j h = pow-le-pow_right {n = 10} (omega arith) h

-- more digits make it no smaller
grows : (v k : ℕ) → v ≤ v * 10 ^ k
grows v k = le-mul_of_pos_right v (ten_positive k)

-- one of at least 39 zeros is past the limit
far : (v k : ℕ) → 0 < v → 39 ≤ k → 2 ^ 128 - 1 ≤ v * 10 ^ k
far v k some h =
    let g = ten_grows 39 k h in
    let times : 10 ^ k ≤ 10 ^ k * v = le-mul_of_pos_right (10 ^ k) some in
    let turned : 10 ^ k * v ≡ v * 10 ^ k = mul_comm (10 ^ k) v in
    omega (arith, g, times, turned)

pub no_zeros : (n k : ℕ) → n ≡ 0 → 0 ≡ min (n * 10 ^ k) (2 ^ 128 - 1)
no_zeros n k none = sym (ap (λ m. min (m * 10 ^ k) (2 ^ 128 - 1)) none ∙ ap (λ m. min m (2 ^ 128 - 1)) (zero-mul (10 ^ k)))

pub past_all : (n k : ℕ) → 0 < n → (10 ^ k < 2 ^ 128 → ⊥) → 2 ^ 128 - 1 ≡ min (n * 10 ^ k) (2 ^ 128 - 1)
past_all n k some past =
    let large : 2 ^ 128 ≤ 10 ^ k = ⊎_elim (λ small. absurd (past small)) (λ h. h) (cases_lt (10 ^ k) (2 ^ 128)) in
    let times : 10 ^ k ≤ 10 ^ k * n = le-mul_of_pos_right (10 ^ k) some in
    let turned : 10 ^ k * n ≡ n * 10 ^ k = mul_comm (10 ^ k) n in
    omega (arith, large, times, turned)

times_capped : (v w k : ℕ) → w ≡ min v (2 ^ 128 - 1) → min (w * 10 ^ k) (2 ^ 128 - 1) ≡ min (v * 10 ^ k) (2 ^ 128 - 1)
times_capped v w k is = ⊎_elim (λ h. let same : w ≡ v = omega (arith, is, h) in ap (λ n. min (n * 10 ^ k) (2 ^ 128 - 1)) same)
    (λ h. let a = grows w k in let b = grows v k in omega (arith, is, h, a, b)) (cases_lt v (2 ^ 128))

far_capped : (v w i j : ℕ) → w ≡ min v (2 ^ 128 - 1) → 39 ≤ i → 39 ≤ j → min (w * 10 ^ i) (2 ^ 128 - 1) ≡ min (v * 10 ^ j) (2 ^ 128 - 1)
far_capped zero w i j is h k =
    let none : w ≡ 0 = omega (arith, is) in
    ap (λ n. min (n * 10 ^ i) (2 ^ 128 - 1)) none ∙ ap (λ n. min n (2 ^ 128 - 1)) (zero-mul (10 ^ i) ∙ sym (zero-mul (10 ^ j)))
far_capped (suc v) w i j is h k = let a = far w i (omega (arith, is)) h in let b = far (suc v) j (omega arith) k in omega (arith, a, b)

pub size_is : (p : Parts) (place point value count zeros r : ℕ) → place ≡ min (point_at p) (length (p.whole ++ p.fraction)) → point ≡ min (point_at p) (2 ^ 128 - 1)
    → value ≡ min (digits_value 10 (take place (p.whole ++ p.fraction))) (2 ^ 128 - 1) → count ≡ length (p.whole ++ p.fraction) → count < 2 ^ 65 → zeros ≡ point - count
    → r ≡ min (value * 10 ^ zeros) (2 ^ 128 - 1) → r ≡ min (whole_of p) (2 ^ 128 - 1)
size_is p place point value count zeros r at point_is value_is count_is short zeros_is h = ⊎_elim near further (cases_lt (point_at p) (2 ^ 128))
  where
    before : ℕ
    before = digits_value 10 (take (point_at p) (p.whole ++ p.fraction))

    read : value ≡ min before (2 ^ 128 - 1)
    read = value_is ∙ ap (λ ds. min (digits_value 10 ds) (2 ^ 128 - 1)) (take_limited (p.whole ++ p.fraction) place (point_at p) (length (p.whole ++ p.fraction)) at refl)

    near : point_at p < 2 ^ 128 → r ≡ min (whole_of p) (2 ^ 128 - 1)
    near within =
        let same : zeros ≡ point_at p - length (p.whole ++ p.fraction) = omega (arith, zeros_is, point_is, count_is, within) in
        h ∙ ap (λ k. min (value * 10 ^ k) (2 ^ 128 - 1)) same ∙ times_capped before value (point_at p - length (p.whole ++ p.fraction)) read

    further : 2 ^ 128 ≤ point_at p → r ≡ min (whole_of p) (2 ^ 128 - 1)
    further past =
        h
        ∙ far_capped before value zeros (point_at p - length (p.whole ++ p.fraction)) read (omega (arith, zeros_is, point_is, past, short)) (omega (arith, past, short, count_is))

-- ---- the number with its sign

near_text : (b : Bool) (n size : ℕ) → size ≡ min n (2 ^ 128 - 1) → whole_text b size ≡ whole_text b n
near_text b n size is = ⊎_elim (λ h. let same : size ≡ n = omega (arith, is, h) in ap (whole_text b) same)
    (λ h. none_over b size (omega (arith, is, h)) ∙ sym (none_over b n (omega (arith, h)))) (cases_lt n (2 ^ 128))

pub whole_decimal_is : (p : Parts) (b : Bool) (size : ℕ) (o : Option (List ℕ)) → is_whole p ≡ true → size ≡ min (whole_of p) (2 ^ 128 - 1) → o ≡ whole_text b size → o ≡ decimal_in b p
whole_decimal_is p b size o whole is h = h ∙ near_text b (whole_of p) size is ∙ ap (λ t. if t then whole_text b (whole_of p) else None) (sym whole)

pub no_decimal : (p : Parts) (b : Bool) → is_whole p ≡ false → None ≡ decimal_in b p
no_decimal p b none = ap (λ t. if t then whole_text b (whole_of p) else None) (sym none)

-- ---- the floor

pub below_whole : (p : Parts) (size : ℕ) → is_whole p ≡ true → size ≡ min (whole_of p) (2 ^ 128 - 1) → size ≡ min (size_below p) (2 ^ 128 - 1)
below_whole p size whole is = is ∙ ap (λ b. min (if b then whole_of p else whole_of p + 1) (2 ^ 128 - 1)) (sym whole)

pub below_other : (p : Parts) (size r : ℕ) → is_whole p ≡ false → size ≡ min (whole_of p) (2 ^ 128 - 1) → r ≡ min (size + 1) (2 ^ 128 - 1) → r ≡ min (size_below p) (2 ^ 128 - 1)
below_other p size r other is h =
    let next : r ≡ min (whole_of p + 1) (2 ^ 128 - 1) = omega (arith, is, h) in
    next ∙ ap (λ b. min (if b then whole_of p else whole_of p + 1) (2 ^ 128 - 1)) (sym other)

-- ---- within 64 bits

pub in_range : (size value : ℕ) → value ≡ size → value < 2 ^ 64 → Some (doc.positive value) ≡ if_in_range (pos size)
in_range size value same h = ap (λ n. Some (doc.positive n)) same ∙ ap (λ b. if b then Some (doc.positive size) else None) (sym (lt-ltb size (2 ^ 64) (omega (arith, same, h))))

out_of_range : (n : ℕ) → 2 ^ 64 ≤ n → if_in_range (pos n) ≡ None
out_of_range n h = ap (λ b. if b then Some (doc.positive n) else None) (le-ltb n (2 ^ 64) h)

pub not_in_range : (n : ℕ) → (n < 2 ^ 64 → ⊥) → None ≡ if_in_range (pos n)
not_in_range n h = sym (out_of_range n (⊎_elim (λ small. absurd (h small)) (λ large. large) (cases_lt n (2 ^ 64))))

below_range : (n : ℕ) → 2 ^ 63 < n → if_in_range (neg_ℤ (pos n)) ≡ None
below_range zero h = absurd (omega (arith, h))
below_range (suc n) h = let past : int_le (neg_ℤ (pos (2 ^ 63))) (negsuc n) ≡ false = grind (arith, ints, h) in ap (λ b. if b && int_lt (negsuc n) (pos (2 ^ 63)) then Some (doc.negative (negsuc n)) else None) past

pub not_in_range_below : (n : ℕ) → (n < 2 ^ 64 → ⊥) → None ≡ if_in_range (neg_ℤ (pos n))
not_in_range_below n h = sym (below_range n (⊎_elim (λ small. absurd (h small)) (λ large. omega (arith, large)) (cases_lt n (2 ^ 64))))

pub near_positive : (n size : ℕ) → size ≡ min n (2 ^ 128 - 1) → if_in_range (pos size) ≡ if_in_range (pos n)
near_positive n size is = ⊎_elim (λ h. let same : size ≡ n = omega (arith, is, h) in ap (λ k. if_in_range (pos k)) same)
    (λ h. out_of_range size (omega (arith, is, h)) ∙ sym (out_of_range n (omega (arith, h)))) (cases_lt n (2 ^ 128))

pub near_negated : (n size : ℕ) → size ≡ min n (2 ^ 128 - 1) → if_in_range (neg_ℤ (pos size)) ≡ if_in_range (neg_ℤ (pos n))
near_negated n size is = ⊎_elim (λ h. let same : size ≡ n = omega (arith, is, h) in ap (λ k. if_in_range (neg_ℤ (pos k))) same)
    (λ h. below_range size (omega (arith, is, h)) ∙ sym (below_range n (omega (arith, h)))) (cases_lt n (2 ^ 128))

pub floor_back : (p : Parts) (b : Bool) (o : Option Number) → b ≡ true → o ≡ if_in_range (neg_ℤ (pos (size_below p))) → o ≡ floor_in b p
floor_back p true o is h = h
floor_back p false o is h = absurd (cc is)

pub floor_on : (p : Parts) (b : Bool) (o : Option Number) → b ≡ false → o ≡ if_in_range (pos (whole_of p)) → o ≡ floor_in b p
floor_on p true o is h = absurd (cc is)
floor_on p false o is h = h
