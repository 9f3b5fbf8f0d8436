-- The digits of padded numbers, and how they are read.
use Rattle.std.proofs.Common.{◌≡◌, refl, sym, ap, ◌∙◌, ◌⊎◌, inl, inr, ℕ, zero, suc, ◌+◌, ◌-◌, ◌/◌, ◌%◌, ◌<◌, ◌≤◌, ◌^◌, true, [], ◌∷◌, ◌++◌, length, decimal, replicate, append_assoc, arith}
use Rattle.std.specs.Char.{digit_value}
use Rattle.std.proofs.lemmas.Bool.{cases_lt}
use Rattle.std.proofs.lemmas.List.{length-append}
use Rattle.std.proofs.lemmas.Fmt.{decimal_digit, decimal_step}
use Rattle.std.proofs.lemmas.Str.{digit_value_digit}
use Rattle.smithy_types.specs.Texts.{padded_decimal}
use Rattle.smithy_types.specs.BigNumbers.{is_digit}
use Rattle.smithy_types.proofs.Readings.{within}

-- a digit as a byte
pub digit_byte : (d : ℕ) → d < 10 → is_digit (48 + d) ≡ true
digit_byte d low = within 48 57 (48 + d) (omega arith) (omega arith)

pub digit_byte-value : (d : ℕ) → d < 10 → digit_value (48 + d) ≡ d
digit_byte-value d low = let e = digit_value_digit (48 + d) (omega arith, omega arith) in omega arith

zeros_more : (k : ℕ) → replicate {A = ℕ} (suc k) 48 ≡ replicate k 48 ++ 48 ∷ []
zeros_more zero = refl
zeros_more (suc k) = ap (λ zs. 48 ∷ zs) (zeros_more k)

-- the last digit of a padded number
padded_more : (width n : ℕ) → n < 2 ^ 64 → padded_decimal (suc (suc width)) n ≡ padded_decimal (suc width) (n / 10) ++ (48 + n % 10) ∷ []
padded_more width n fits = go (cases_lt n 10)
  where
    go : (n < 10) ⊎ (10 ≤ n) → padded_decimal (suc (suc width)) n ≡ padded_decimal (suc width) (n / 10) ++ (48 + n % 10) ∷ []
    go (inl few) =
        let front : n / 10 ≡ 0 = omega arith in
        let last : n % 10 ≡ n = omega arith in
        let whole = decimal_digit n few in
        let none = decimal_digit 0 (omega arith) in
        let wide : suc (suc width) - 1 ≡ suc width = omega arith in
        let narrow : suc width - 1 ≡ width = omega arith in
        ap (λ ds. replicate (suc (suc width) - length ds) 48 ++ ds) whole
        ∙ ap (λ k. replicate k 48 ++ (48 + n) ∷ []) wide
        ∙ ap (λ zs. zs ++ (48 + n) ∷ []) (zeros_more width)
        ∙ sym (ap (λ k. replicate k 48 ++ (48 ∷ []) ++ (48 + n) ∷ []) narrow)
        ∙ sym (ap (λ ds. replicate (suc width - length ds) 48 ++ ds ++ (48 + n) ∷ []) none)
        ∙ sym (ap (λ q. padded_decimal (suc width) q ++ (48 + n) ∷ []) front)
        ∙ sym (ap (λ d. padded_decimal (suc width) (n / 10) ++ (48 + d) ∷ []) last)
    go (inr many) =
        let step = decimal_step n many fits in
        let long = length-append (decimal (n / 10)) ((48 + n % 10) ∷ []) in
        let same : suc (suc width) - length (decimal (n / 10) ++ (48 + n % 10) ∷ []) ≡ suc width - length (decimal (n / 10)) = omega (arith, long) in
        ap (λ ds. replicate (suc (suc width) - length ds) 48 ++ ds) step
        ∙ ap (λ k. replicate k 48 ++ (decimal (n / 10) ++ (48 + n % 10) ∷ [])) same
        ∙ sym (append_assoc (replicate (suc width - length (decimal (n / 10))) 48) (decimal (n / 10)) ((48 + n % 10) ∷ []))

padded_one : (n : ℕ) → n < 10 → padded_decimal 1 n ≡ (48 + n) ∷ []
padded_one n few = ap (λ ds. replicate (1 - length ds) 48 ++ ds) (decimal_digit n few)

pub padded_two : (n : ℕ) → n < 100 → padded_decimal 2 n ≡ (48 + n / 10) ∷ (48 + n % 10) ∷ []
padded_two n few = padded_more 0 n (omega arith) ∙ ap (λ ds. ds ++ (48 + n % 10) ∷ []) (padded_one (n / 10) (omega arith))

pub padded_four : (n : ℕ) → n < 10000 → padded_decimal 4 n ≡ (48 + n / 10 / 10 / 10) ∷ (48 + n / 10 / 10 % 10) ∷ (48 + n / 10 % 10) ∷ (48 + n % 10) ∷ []
padded_four n few =
    padded_more 2 n (omega arith)
    ∙ ap (λ ds. ds ++ (48 + n % 10) ∷ [])
    (padded_more 1 (n / 10) (omega arith) ∙ ap (λ ds. ds ++ (48 + n / 10 % 10) ∷ []) (padded_two (n / 10 / 10) (omega arith)))
